-- 02, §4: "the one that the names walk meets first", said twice more: of the list of nodes met, and of the walk itself, which notes each
-- node that it uses or sets. proofs/FirstMet shows that it is the same. Assumes nothing.
use Rattle.std.specs.Prelude.{ℕ, suc, ◌≡◌, Bool, true, false, ◌||◌, not, List, [], ◌∷◌, ◌++◌, leb, T}
use Rattle.tree.specs.Forest.{Spot, Head}
use Rattle.rules.specs.Order.{Cmd, skip, ◌⨟◌, use_of, set_of, stop, branch, loop, scope}
use Rattle.rules.specs.Names.{same, State, back_to, joined, unlooped, enter, leave, walk}

-- whether one of these nodes has this span and name
abbrev pub is_met : List Head → Spot → Bool
is_met [] s = false
is_met (h ∷ hs) s = same s h.spot || is_met hs s

-- n is the number of a node among these that has this span and name, and none before it has
pub record MeetsFirst (s : Spot) (hs : List Head) (n : ℕ) : Type 0 where
  pub before : List Head
  pub it : Head
  pub after : List Head
  pub there : hs ≡ before ++ (it ∷ after)
  pub pair : it.spot ≡ s
  pub numbered : it.number ≡ n
  pub none_earlier : T (not (is_met before s))

-- a state of the walk, and the nodes that it has met so far
pub record Noted : Type 0 where
  pub state : State
  pub nodes : List Head

abbrev pub with_state : State → Noted → Noted
with_state st n = record { state = st; nodes = n.nodes }

abbrev pub with_node : Head → State → Noted → Noted
with_node h st n = record { state = st; nodes = n.nodes ++ (h ∷ []) }

-- Names' branch, round and rounds, of noted states
abbrev pub branch_noted : (Noted → Noted) → (Noted → Noted) → Noted → Noted
branch_noted f g n =
    let one = f n in
    let two = g (with_state (back_to n.state one.state) one) in
    with_state (joined one.state two.state) two

abbrev pub same_noted : Noted → Noted
same_noted n = n

abbrev pub round_noted : (Noted → Noted) → Noted → Noted
round_noted f n = let r = branch_noted f same_noted n in with_state (unlooped r.state) r

abbrev pub rounds_noted : Bool → (Noted → Noted) → Noted → Noted
rounds_noted true f n = round_noted f (round_noted f n)
rounds_noted false f n = round_noted f n

module _ (underscore : ℕ → Bool) where
  -- the walk of Names, which notes each node that it uses or sets
  abbrev pub noting : ℕ → Cmd → Noted → Noted
  noting depth skip n = n
  noting depth (a ⨟ b) n = noting depth b (noting depth a n)
  noting depth (use_of h) n = with_node h (walk underscore depth (use_of h) n.state) n
  noting depth (set_of o h) n = with_node h (walk underscore depth (set_of o h) n.state) n
  noting depth (stop why) n = with_state (walk underscore depth (stop why) n.state) n
  noting depth (branch a b) n = branch_noted (noting depth a) (noting depth b) n
  noting depth (loop c) n = rounds_noted (leb (suc depth) 5) (noting (suc depth) c) n
  noting depth (scope c) n = let r = noting depth c (with_state (enter n.state) n) in with_state (leave underscore r.state) r
