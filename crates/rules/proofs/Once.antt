-- Lists without repeats: an entry joins only if it is not there yet. What a pass over a list does is the same over the list without its repeats.
use mathlib.Core.Path.{◌≡◌, refl, sym, ◌∙◌, ap, subst}
use mathlib.Core.Bool.{Bool, true, false}
use mathlib.Core.List.{List, [], ◌∷◌, ◌++◌}
use lib.Dec.{T}
use Rattle.rules.specs.code.Marks.{put, inside, add, adds}
use Rattle.rules.proofs.Bools.{so, or_left, or_right, or_case}

-- f taken over a list, from the left
abbrev pub over : {A W : Type 0} → (A → W → W) → List A → W → W
over f [] w = w
over f (a ∷ ys) w = over f ys (f a w)

pub over_append : {A W : Type 0} (f : A → W → W) (l m : List A) (w : W) → over f (l ++ m) w ≡ over f m (over f l w)
over_append f [] m w = refl
over_append f (a ∷ ys) m w = over_append f ys m (f a w)

module _ {A : Type 0} (eq : A → A → Bool) where
  abbrev pub once : List A → List A
  once l = adds eq l []

  pub adds_append : (l m k : List A) → adds eq (l ++ m) k ≡ adds eq m (adds eq l k)
  adds_append [] m k = refl
  adds_append (a ∷ ys) m k = adds_append ys m (add eq a k)

  pub add_there : (a : A) (l : List A) → T (inside eq a l) → add eq a l ≡ l
  add_there a l t = ap (λ (b : Bool). put b a l) (so (inside eq a l) t)

  inside_last : (a b : A) (l : List A) → T (inside eq a l) → T (inside eq a (l ++ (b ∷ [])))
  inside_last a b (c ∷ cs) t = or_case (eq a c) (inside eq a cs) (or_left (eq a c) (inside eq a (cs ++ (b ∷ []))))
      (λ u. or_right (eq a c) (inside eq a (cs ++ (b ∷ []))) (inside_last a b cs u)) t
  inside_last a b [] t = absurd t

  inside_put : (x : Bool) (a b : A) (l : List A) → T (inside eq a l) → T (inside eq a (put x b l))
  inside_put true a b l t = t
  inside_put false a b l t = inside_last a b l t

  pub inside_adds : (a : A) (m l : List A) → T (inside eq a l) → T (inside eq a (adds eq m l))
  inside_adds a [] l t = t
  inside_adds a (b ∷ bs) l t = inside_adds a bs (add eq b l) (inside_put (inside eq b l) a b l t)

  module _ (sound : (a b : A) → T (eq a b) → a ≡ b) (exact : (a : A) → T (eq a a)) where
    last_in : (a : A) (l : List A) → T (inside eq a (l ++ (a ∷ [])))
    last_in a [] = or_left (eq a a) false (exact a)
    last_in a (b ∷ bs) = or_right (eq a b) (inside eq a (bs ++ (a ∷ []))) (last_in a bs)

    pub add_in : (a : A) (l : List A) → T (inside eq a (add eq a l))
    add_in a l = go (inside eq a l) refl
      where
        go : (x : Bool) → inside eq a l ≡ x → T (inside eq a (put x a l))
        go true e = subst T (sym e) tt
        go false e = last_in a l

    pub inside_from : (a : A) (m l : List A) → T (inside eq a m) → T (inside eq a (adds eq m l))
    inside_from a (b ∷ bs) l t = or_case (eq a b) (inside eq a bs)
        (λ u. inside_adds a bs (add eq b l) (subst (λ (c : A). T (inside eq c (add eq b l))) (sym (sound a b u)) (add_in b l)))
        (inside_from a bs (add eq b l)) t
    inside_from a [] l t = absurd t

    -- adding to a list without repeats is adding its own list without repeats
    adds_add : (a : A) (m l : List A) → adds eq (add eq a m) l ≡ add eq a (adds eq m l)
    adds_add a m l = go (inside eq a m) refl
      where
        go : (x : Bool) → inside eq a m ≡ x → adds eq (put x a m) l ≡ add eq a (adds eq m l)
        go true e = sym (add_there a (adds eq m l) (inside_from a m l (subst T (sym e) tt)))
        go false e = adds_append m (a ∷ []) l

    pub adds_adds : (k m l : List A) → adds eq (adds eq k m) l ≡ adds eq k (adds eq m l)
    adds_adds [] m l = refl
    adds_adds (a ∷ ys) m l = adds_adds ys (add eq a m) l ∙ ap (adds eq ys) (adds_add a m l)

    pub adds_once : (k l : List A) → adds eq (once k) l ≡ adds eq k l
    adds_once k l = adds_adds k [] l

    -- what a pass does, where doing an entry again is doing nothing
    module _ {W : Type 0} (f : A → W → W) (Done : A → W → Type 0) (does : (a : A) (w : W) → Done a (f a w))
        (stays : (a b : A) (w : W) → Done a w → Done a (f b w)) (idle : (a : A) (w : W) → Done a w → f a w ≡ w) where
      done_over : (a : A) (l : List A) (w : W) → Done a w → Done a (over f l w)
      done_over a [] w d = d
      done_over a (b ∷ bs) w d = done_over a bs (f b w) (stays a b w d)

      done_in : (a : A) (l : List A) (w : W) → T (inside eq a l) → Done a (over f l w)
      done_in a (b ∷ bs) w t = or_case (eq a b) (inside eq a bs)
          (λ u. done_over a bs (f b w) (subst (λ (c : A). Done c (f b w)) (sym (sound a b u)) (does b w)))
          (done_in a bs (f b w)) t
      done_in a [] w t = absurd t

      over_add : (a : A) (l : List A) (w : W) → over f (add eq a l) w ≡ f a (over f l w)
      over_add a l w = go (inside eq a l) refl
        where
          go : (x : Bool) → inside eq a l ≡ x → over f (put x a l) w ≡ f a (over f l w)
          go true e = sym (idle a (over f l w) (done_in a l w (subst T (sym e) tt)))
          go false e = over_append f l (a ∷ []) w

      pub over_adds : (m l : List A) (w : W) → over f (adds eq m l) w ≡ over f m (over f l w)
      over_adds [] l w = refl
      over_adds (a ∷ ys) l w = over_adds ys (add eq a l) w ∙ ap (over f ys) (over_add a l w)
