-- Three lists one after another, of a file that has few records. Assumes nothing.
use Prim.Native.Nat.{ℕ, ◌+◌}
use native.Mathlib.Omega.{arith}
use mathlib.Core.Path.{ap, ◌∙◌}
use Rattle.rules.specs.Flow.{flow_list}
use Rattle.rules.specs.Incompatible.{incompatible_list}
use Rattle.rules.specs.Dubious.{dubious_list}
use Rattle.lint.proofs.Link.{about_flow, about_incompatible, about_dubious, length_three, few_three, end_one, end_two, three_done}
use Rattle.lint.proofs.File.rest.Goals as goal

pub overflow_mul-n : goal.overflow_mul-n
overflow_mul-n c =
    let s = c.args.self.now in
    let n = c.about-n.ensures ∙ about_flow s.mode s.tree.now s.valid _ _ c.lint_valid-a.ensures in
    omega (arith, n, length_three s.mode s.tree.now s.valid, few_three s.mode s.tree.now s.valid)

pub offset_bounds-out-n : goal.offset_bounds-out-n
offset_bounds-out-n c =
    let s = c.args.self.now in
    let n = c.about-n.ensures ∙ about_flow s.mode s.tree.now s.valid _ _ c.lint_valid-a.ensures in
    omega (arith, n, length_three s.mode s.tree.now s.valid, few_three s.mode s.tree.now s.valid)

pub slice_bounds-lint_valid-count : goal.slice_bounds-lint_valid-count
slice_bounds-lint_valid-count c =
    let s = c.args.self.now in
    let n = c.about-n.ensures ∙ about_flow s.mode s.tree.now s.valid _ _ c.lint_valid-a.ensures in
    end_one (flow_list s.tree.now) (incompatible_list s.tree.now) (dubious_list s.mode s.tree.now) c.args.out.now c.args.tally
    (record { sound = record { valid = s.valid }; enough = c.requires })
    c.lint_valid-a.new.out c.about-n.result c.lint_valid-a.result c.lint_valid-a.ensures n

pub slice_bounds-lint_valid-start : goal.slice_bounds-lint_valid-start
slice_bounds-lint_valid-start c =
    let s = c.args.self.now in
    let n = c.about-n.ensures ∙ about_flow s.mode s.tree.now s.valid _ _ c.lint_valid-a.ensures in
    end_one (flow_list s.tree.now) (incompatible_list s.tree.now) (dubious_list s.mode s.tree.now) c.args.out.now c.args.tally
    (record { sound = record { valid = s.valid }; enough = c.requires })
    c.lint_valid-a.new.out c.about-n.result c.lint_valid-a.result c.lint_valid-a.ensures n

pub overflow_add-m : goal.overflow_add-m
overflow_add-m c =
    let s = c.args.self.now in
    let n = c.about-n.ensures ∙ about_flow s.mode s.tree.now s.valid _ _ c.lint_valid-a.ensures in
    let m = c.about.ensures ∙ about_incompatible s.mode s.tree.now s.valid _ _ c.lint_valid-b.ensures in
    omega (arith, n, m, length_three s.mode s.tree.now s.valid, few_three s.mode s.tree.now s.valid)

pub overflow_mul-m : goal.overflow_mul-m
overflow_mul-m c =
    let s = c.args.self.now in
    let n = c.about-n.ensures ∙ about_flow s.mode s.tree.now s.valid _ _ c.lint_valid-a.ensures in
    let m = c.about.ensures ∙ about_incompatible s.mode s.tree.now s.valid _ _ c.lint_valid-b.ensures in
    omega (arith, n, m, length_three s.mode s.tree.now s.valid, few_three s.mode s.tree.now s.valid)

pub offset_bounds-out-m : goal.offset_bounds-out-m
offset_bounds-out-m c =
    let s = c.args.self.now in
    let n = c.about-n.ensures ∙ about_flow s.mode s.tree.now s.valid _ _ c.lint_valid-a.ensures in
    let m = c.about.ensures ∙ about_incompatible s.mode s.tree.now s.valid _ _ c.lint_valid-b.ensures in
    omega (arith, n, m, length_three s.mode s.tree.now s.valid, few_three s.mode s.tree.now s.valid)

pub slice_bounds-lint_valid-count-2 : goal.slice_bounds-lint_valid-count-2
slice_bounds-lint_valid-count-2 c =
    let s = c.args.self.now in
    let n = c.about-n.ensures ∙ about_flow s.mode s.tree.now s.valid _ _ c.lint_valid-a.ensures in
    end_two (flow_list s.tree.now) (incompatible_list s.tree.now) (dubious_list s.mode s.tree.now) c.args.out.now c.args.tally
    (record { sound = record { valid = s.valid }; enough = c.requires })
    c.lint_valid-a.new.out c.about-n.result c.lint_valid-a.result c.lint_valid-a.ensures n
    c.lint_valid-b.result c.lint_valid-b.new.out c.lint_valid-b.ensures _ (ap (λ (k : ℕ). c.about-n.result + k) c.about.ensures)

pub slice_bounds-lint_valid-start-2 : goal.slice_bounds-lint_valid-start-2
slice_bounds-lint_valid-start-2 c =
    let s = c.args.self.now in
    let n = c.about-n.ensures ∙ about_flow s.mode s.tree.now s.valid _ _ c.lint_valid-a.ensures in
    end_two (flow_list s.tree.now) (incompatible_list s.tree.now) (dubious_list s.mode s.tree.now) c.args.out.now c.args.tally
    (record { sound = record { valid = s.valid }; enough = c.requires })
    c.lint_valid-a.new.out c.about-n.result c.lint_valid-a.result c.lint_valid-a.ensures n
    c.lint_valid-b.result c.lint_valid-b.new.out c.lint_valid-b.ensures _ (ap (λ (k : ℕ). c.about-n.result + k) c.about.ensures)

pub after-requires : goal.after-requires
after-requires c =
    let s = c.args.self.now in
    let n = c.about-n.ensures ∙ about_flow s.mode s.tree.now s.valid _ _ c.lint_valid-a.ensures in
    let m = c.about.ensures ∙ about_incompatible s.mode s.tree.now s.valid _ _ c.lint_valid-b.ensures in
    let k = about_dubious s.mode s.tree.now s.valid _ _ c.lint_valid-c.ensures in
    omega (arith, n, m, k, length_three s.mode s.tree.now s.valid, few_three s.mode s.tree.now s.valid)

pub returns : goal.returns
returns c =
    let s = c.args.self.now in
    let n = c.about-n.ensures ∙ about_flow s.mode s.tree.now s.valid _ _ c.lint_valid-a.ensures in
    three_done (flow_list s.tree.now) (incompatible_list s.tree.now) (dubious_list s.mode s.tree.now) c.args.out.now c.args.tally
    (record { sound = record { valid = s.valid }; enough = c.requires })
    c.lint_valid-a.new.out c.about-n.result c.lint_valid-a.result c.lint_valid-a.ensures n
    c.lint_valid-b.result c.lint_valid-b.new.out c.lint_valid-b.ensures _ (ap (λ (k : ℕ). c.about-n.result + k) c.about.ensures)
    c.lint_valid-c.result c.after.result c.lint_valid-c.new.out c.lint_valid-c.ensures c.after.ensures.0 c.after.ensures.1
