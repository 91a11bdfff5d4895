-- Each pass is about its whole list, and the lists are few. Assumes nothing.
use native.Mathlib.Omega.{arith}
use mathlib.Core.Path.{◌∙◌}
use Rattle.lint.proofs.Link.{about_flow, about_incompatible, about_dubious, length_three, few_three}
use Rattle.lint.proofs.File.rest_needed.Goals as goal

pub overflow_add-result : goal.overflow_add-result
overflow_add-result c =
    let s = c.args.self.now in
    let x = c.about.ensures ∙ about_flow s.mode s.tree.now s.valid _ _ c.lint_valid-a.ensures in
    let y = c.about-2.ensures ∙ about_incompatible s.mode s.tree.now s.valid _ _ c.lint_valid-b.ensures in
    omega (arith, x, y, length_three s.mode s.tree.now s.valid, few_three s.mode s.tree.now s.valid)

pub overflow_add-result-2 : goal.overflow_add-result-2
overflow_add-result-2 c =
    let s = c.args.self.now in
    let x = c.about.ensures ∙ about_flow s.mode s.tree.now s.valid _ _ c.lint_valid-a.ensures in
    let y = c.about-2.ensures ∙ about_incompatible s.mode s.tree.now s.valid _ _ c.lint_valid-b.ensures in
    let z = c.about-3.ensures ∙ about_dubious s.mode s.tree.now s.valid _ _ c.lint_valid-c.ensures in
    omega (arith, x, y, z, length_three s.mode s.tree.now s.valid, few_three s.mode s.tree.now s.valid)

pub returns : goal.returns
returns c =
    let s = c.args.self.now in
    let x = c.about.ensures ∙ about_flow s.mode s.tree.now s.valid _ _ c.lint_valid-a.ensures in
    let y = c.about-2.ensures ∙ about_incompatible s.mode s.tree.now s.valid _ _ c.lint_valid-b.ensures in
    let z = c.about-3.ensures ∙ about_dubious s.mode s.tree.now s.valid _ _ c.lint_valid-c.ensures in
    omega (arith, x, y, z, length_three s.mode s.tree.now s.valid)
