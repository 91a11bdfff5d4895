-- What a walk leaves after it met some nodes. Assumes nothing.
use Rattle.std.specs.Prelude.{◌≡◌, List}
use Rattle.tree.specs.Forest.{Head}
use Rattle.meeting.specs.declared.walk.Walk.{Walk}
use Rattle.meeting.specs.Words.{meets}

pub record Walked (before after : Walk) (hs : List Head) : Type 0 where
  pub file : after.t.now ≡ before.t.now
  pub places : after.places ≡ before.places
  pub reference : after.w.ghost_name ≡ before.w.ghost_name
  pub words : after.w.now ≡ meets before.t.now before.places before.w.now hs
