use Rattle.sarif.proofs.Telling.{found_all, called_listed, called_refused}
use Prim.Native.Nat.{ℕ, ◌*◌}
use Rattle.rules.specs.Record.{width}
use lib.ListN.{replicate, length-replicate}
use Rattle.sarif.proofs.sarif.Goals as goal

pub tell-requires : goal.tell-requires
tell-requires c =
    let a = c.args in
    found_all a.mode a.t.now a.work.now (replicate (width * 10240) 0) (length-replicate {A = ℕ} (width * 10240) 0) c.lint-a.result c.lint-a.new.out c.lint-a.new.work c.lint-a.ensures c.in-Ok.n c.in-Ok.is

pub returns-in-Ok : goal.returns-in-Ok
returns-in-Ok c =
    let a = c.args in
    called_listed a.mode a.t.now a.work.now (replicate (width * 10240) 0) (length-replicate {A = ℕ} (width * 10240) 0) c.lint-a.result c.lint-a.new.out c.lint-a.new.work c.lint-a.ensures c.in-Ok.n c.in-Ok.is a.answer.now a.output.now c.tell.result c.tell.new.answer c.tell.new.output c.tell.ensures

pub returns-in-Err : goal.returns-in-Err
returns-in-Err c =
    let a = c.args in
    called_refused a.mode a.t.now a.work.now (replicate (width * 10240) 0) (length-replicate {A = ℕ} (width * 10240) 0) c.lint-a.result c.lint-a.new.out c.lint-a.new.work c.lint-a.ensures c.in-Err.why c.in-Err.is a.answer.now a.output.now c.refused.result c.refused.ensures.0 c.refused.ensures.1
