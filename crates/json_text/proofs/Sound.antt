-- Every text is of RFC 8259's grammar. Assumes nothing.
use Prim.Native.Nat.{ℕ, zero, suc, ◌+◌, ◌/◌, ◌%◌, ◌≤◌, ◌<◌}
use mathlib.Core.Path.{◌≡◌, refl, sym, ap, subst, ◌∙◌}
use mathlib.Core.Bool.{Bool, true, false, cond, ◌||◌, not}
use mathlib.Core.List.{List, [], ◌∷◌, ◌++◌, append_assoc, append-nil}
use lib.Dec.{T, eqb, leb, ltb, leb→le, nleb→lt, ltb→lt, nltb→le}
use native.Mathlib.Omega.{arith}
use Rattle.base.specs.Ascii.{ascii}
use Rattle.base.proofs.Bools.{and_left, or_left, or_right, nor_left, nor_right, test}
use Rattle.json_text.specs.Utf8.{within, Char, one, two, three_e0, three_ec, three_ed, three_ef, four_f0, four_f3, four_f4}
use Rattle.json_text.specs.Grammar.{Name, Is, digit, hexdig, unescaped, Minus}
use Rattle.json_text.specs.Escape.{must, hex_digit, hex, six, escaped}
use Rattle.json_text.specs.Kept.{clear, Escaped, end, kept, marked, replaced}
use Rattle.page.specs.Digits.{digits, decimal}
use Rattle.json_text.specs.Text.{Json, string, number, array, rows, object, Items, nil, item, Members, done, ◌⨾◌, Member, ◌⇒◌, quoted, comma, text, items, lines, members, member}
use Rattle.json_text.proofs.Characters.{within_high, within_so, apart}
use Rattle.json_text.proofs.Kept.{must_most, escaped_so}
use Rattle.page.proofs.Decimals.{by_digits}

-- ---- strings

hex_is : (d : ℕ) → d < 16 → T (hexdig (hex_digit d))
hex_is d p = go (ltb d 10) (ltb→lt d 10) (nltb→le d 10)
  where
    go : (x : Bool) → (T x → d < 10) → (T (not x) → 10 ≤ d) → T (hexdig (cond x (48 + d) (87 + d)))
    go true f g =
        let q = f tt in
        or_left (digit (48 + d)) (within 0x41 0x46 (48 + d) || within 0x61 0x66 (48 + d)) (within_so 0x30 0x39 (48 + d) (omega arith) (omega arith))
    go false f g =
        let q = g tt in
        or_right (digit (87 + d)) (within 0x41 0x46 (87 + d) || within 0x61 0x66 (87 + d))
        (or_right (within 0x41 0x46 (87 + d)) (within 0x61 0x66 (87 + d)) (within_so 0x61 0x66 (87 + d) (omega arith) (omega arith)))

six_is : (b : ℕ) → T (must b) → Is Name.char (six b)
unfolding hex
six_is b t = let m = must_most b t in Is.by_number tt tt (hex_is (b / 16 % 16) (omega arith)) (hex_is (b % 16) (omega arith))

plain_is : (a : ℕ) → a ≤ 0x7F → T (not (must a)) → T (unescaped a)
plain_is a h t =
    let r = nor_right (leb a 0x1F) (eqb a 0x22 || eqb a 0x5C) t in
    let l = nleb→lt a 0x1F (nor_left (leb a 0x1F) (eqb a 0x22 || eqb a 0x5C) t) in
    let n = apart a 0x22 (nor_left (eqb a 0x22) (eqb a 0x5C) r) in
    let m = apart a 0x5C (nor_right (eqb a 0x22) (eqb a 0x5C) r) in
    let first = within 0x20 0x21 a in
    let second = within 0x23 0x5B a in
    let third = within 0x5D 0x7F a in
    test (leb a 0x21) (λ p. or_left first (second || third) (within_so 0x20 0x21 a (omega arith) (leb→le a 0x21 p)))
    (λ p. let p' = nleb→lt a 0x21 p in
    or_right first (second || third)
    (test (leb a 0x5B) (λ q. or_left second third (within_so 0x23 0x5B a (omega arith) (leb→le a 0x5B q)))
    (λ q. let q' = nleb→lt a 0x5B q in or_right second third (within_so 0x5D 0x7F a (omega arith) h))))

char_is : {c : List ℕ} → Char c → T (clear c) → Is Name.char c
char_is (one {a = a} t) u = Is.plain (plain_is a (within_high 0x00 0x7F a t) (and_left (not (must a)) true u))
char_is (two t u) c = Is.wide (two t u)
char_is (three_e0 u v) c = Is.wide (three_e0 u v)
char_is (three_ec t u v) c = Is.wide (three_ec t u v)
char_is (three_ed u v) c = Is.wide (three_ed u v)
char_is (three_ef t u v) c = Is.wide (three_ef t u v)
char_is (four_f0 u v w) c = Is.wide (four_f0 u v w)
char_is (four_f3 t u v w) c = Is.wide (four_f3 t u v w)
char_is (four_f4 u v w) c = Is.wide (four_f4 u v w)

chars_are : {s e : List ℕ} → Escaped s e → Is Name.chars e
chars_are end = Is.no_chars
chars_are (kept ch t h) = Is.a_char (char_is ch t) (chars_are h)
chars_are (marked {b = b} t h) = Is.a_char (six_is b t) (chars_are h)
chars_are (replaced out h) = Is.a_char (Is.wide (three_ef tt tt tt)) (chars_are h)

pub escaped_chars : (s : List ℕ) → Is Name.chars (escaped s)
escaped_chars s = chars_are (escaped_so s)

-- ---- numbers

-- digits that don't begin with 0
data Lead : List ℕ → Type 0 where
  lead : {b : ℕ} {s : List ℕ} → T (within 0x31 0x39 b) → Is Name.digits s → Lead (b ∷ s)

digits_more : {s : List ℕ} (d : ℕ) → T (digit d) → Is Name.digits s → Is Name.digits (s ++ (d ∷ []))
digits_more d t Is.no_digits = Is.a_digit t Is.no_digits
digits_more d t (Is.a_digit u h) = Is.a_digit u (digits_more d t h)

lead_more : {s : List ℕ} (d : ℕ) → T (digit d) → Lead s → Lead (s ++ (d ∷ []))
lead_more d t (lead u h) = lead u (digits_more d t h)

decimal_lead : (n : ℕ) → 1 ≤ n → Lead (decimal n)
decimal_lead n =
    by_digits (λ m s. 1 ≤ m → Lead s) (λ d h p. lead (within_so 0x31 0x39 (48 + d) (omega arith) (omega arith)) Is.no_digits)
    (λ m s h f p. lead_more (48 + m % 10) (within_so 0x30 0x39 (48 + m % 10) (omega arith) (omega arith)) (f (omega arith))) n

lead_int : {s : List ℕ} → Lead s → Is Name.int s
lead_int (lead t h) = Is.from_one t h

decimal_int : (n : ℕ) → Is Name.int (decimal n)
unfolding decimal digits
decimal_int zero = Is.zero
decimal_int (suc n) = lead_int (decimal_lead (suc n) (omega arith))

pub decimal_number : (n : ℕ) → Is Name.number (decimal n)
decimal_number n =
    subst (λ s. Is Name.number s) (append-nil (decimal n)) (Is.of_parts Minus.none (decimal_int n) Is.no_frac Is.no_exp)

-- ---- a text before what follows it

comma_rest : (first : Bool) (s rest : List ℕ) → comma first (s ++ rest) ≡ comma first s ++ rest
comma_rest true s rest = refl
comma_rest false s rest = refl

-- a text before another that stands before what follows
before : (s t rest : List ℕ) (f g : List ℕ → List ℕ) → ((r : List ℕ) → f r ≡ s ++ r) → g rest ≡ t ++ rest → f (g rest) ≡ f t ++ rest
before s t rest f g p q =
    p (g rest) ∙ ap (λ x. s ++ x) q ∙ sym (append_assoc s t rest) ∙ ap (λ x. x ++ rest) (sym (p t))

key_rest : (k r : List ℕ) → quoted k (0x3A ∷ r) ≡ quoted k (0x3A ∷ []) ++ r
key_rest k r = ap {B = List ℕ} (λ x. 0x22 ∷ x) (sym (append_assoc (escaped k) (0x22 ∷ 0x3A ∷ []) r))

mutual
  unfolding text

  pub text_rest : (j : Json) (rest : List ℕ) → text j rest ≡ text j [] ++ rest
  text_rest (string s) rest = ap {B = List ℕ} (λ x. 0x22 ∷ x) (sym (append_assoc (escaped s) (0x22 ∷ []) rest))
  text_rest (number n) rest = ap (λ x. x ++ rest) (sym (append-nil (decimal n)))
  text_rest (array xs) rest =
      ap {B = List ℕ} (λ x. 0x5B ∷ x) (before (items true xs []) (0x5D ∷ []) rest (items true xs) (λ r. 0x5D ∷ r) (λ r. items_rest xs true r) refl)
  text_rest (rows xs) rest =
      ap {B = List ℕ} (λ x. 0x5B ∷ x) (before (lines true xs []) (0x5D ∷ []) rest (lines true xs) (λ r. 0x5D ∷ r) (λ r. lines_rest xs true r) refl)
  text_rest (object ms) rest =
      ap {B = List ℕ} (λ x. 0x7B ∷ x)
      (before (members true ms []) (0x7D ∷ []) rest (members true ms) (λ r. 0x7D ∷ r) (λ r. members_rest ms true r) refl)

  pub items_rest : (xs : Items) (first : Bool) (rest : List ℕ) → items first xs rest ≡ items first xs [] ++ rest
  items_rest nil first rest = refl
  items_rest (item x xs) first rest =
      ap (comma first) (before (text x []) (items false xs []) rest (text x) (items false xs) (λ r. text_rest x r) (items_rest xs false rest))
      ∙ comma_rest first (text x (items false xs [])) rest

  pub lines_rest : (xs : Items) (first : Bool) (rest : List ℕ) → lines first xs rest ≡ lines first xs [] ++ rest
  lines_rest nil first rest = refl
  lines_rest (item x xs) first rest =
      ap (λ r. comma first (0x0A ∷ r))
      (before (text x []) (lines false xs []) rest (text x) (lines false xs) (λ r. text_rest x r) (lines_rest xs false rest))
      ∙ comma_rest first (0x0A ∷ text x (lines false xs [])) rest

  pub members_rest : (ms : Members) (first : Bool) (rest : List ℕ) → members first ms rest ≡ members first ms [] ++ rest
  members_rest done first rest = refl
  members_rest (m ⨾ ms) first rest =
      ap (comma first)
      (before (member m []) (members false ms []) rest (member m) (members false ms) (λ r. member_rest m r) (members_rest ms false rest))
      ∙ comma_rest first (member m (members false ms [])) rest

  pub member_rest : (m : Member) (rest : List ℕ) → member m rest ≡ member m [] ++ rest
  member_rest (key ⇒ x) rest =
      before (quoted (ascii key) (0x3A ∷ [])) (text x []) rest (λ r. quoted (ascii key) (0x3A ∷ r)) (text x) (key_rest (ascii key))
      (text_rest x rest)

-- ---- every value's text

string_is : (s : List ℕ) → Is Name.string (quoted s [])
string_is s = Is.marked (escaped_chars s)

line_end : Is Name.ws (0x0A ∷ [])
line_end = Is.a_ws tt Is.no_ws

mutual
  unfolding text

  pub text_json : (j : Json) → Is Name.value (text j [])
  text_json (string s) = Is.a_string (string_is s)
  text_json (number n) = Is.a_number (subst (λ s. Is Name.number s) (sym (append-nil (decimal n))) (decimal_number n))
  text_json (array xs) = Is.an_array (array_is xs)
  text_json (rows xs) = Is.an_array (rows_is xs)
  text_json (object ms) = Is.an_object (object_is ms)

  array_is : (xs : Items) → Is Name.array (0x5B ∷ items true xs (0x5D ∷ []))
  array_is nil = Is.empty_array Is.no_ws Is.no_ws Is.no_ws Is.no_ws
  array_is (item x xs) =
      subst (λ s. Is Name.array (0x5B ∷ s)) (sym (items_rest (item x xs) true (0x5D ∷ [])))
      (Is.of_values Is.no_ws Is.no_ws (items_are xs x (text_json x)) Is.no_ws Is.no_ws)

  -- the items after x
  items_are : (xs : Items) (x : Json) → Is Name.value (text x []) → Is Name.value_list (text x (items false xs []))
  items_are nil x v = Is.last_value v
  items_are (item y ys) x v =
      subst (λ s. Is Name.value_list s) (sym (text_rest x (items false (item y ys) [])))
      (Is.next_value v Is.no_ws Is.no_ws (items_are ys y (text_json y)))

  rows_is : (xs : Items) → Is Name.array (0x5B ∷ lines true xs (0x5D ∷ []))
  rows_is nil = Is.empty_array Is.no_ws Is.no_ws Is.no_ws Is.no_ws
  rows_is (item x xs) =
      subst (λ s. Is Name.array (0x5B ∷ s)) (sym (lines_rest (item x xs) true (0x5D ∷ [])))
      (Is.of_values Is.no_ws line_end (lines_are xs x (text_json x)) Is.no_ws Is.no_ws)

  lines_are : (xs : Items) (x : Json) → Is Name.value (text x []) → Is Name.value_list (text x (lines false xs []))
  lines_are nil x v = Is.last_value v
  lines_are (item y ys) x v =
      subst (λ s. Is Name.value_list s) (sym (text_rest x (lines false (item y ys) [])))
      (Is.next_value v Is.no_ws line_end (lines_are ys y (text_json y)))

  object_is : (ms : Members) → Is Name.object (0x7B ∷ members true ms (0x7D ∷ []))
  object_is done = Is.empty_object Is.no_ws Is.no_ws Is.no_ws Is.no_ws
  object_is (m ⨾ ms) =
      subst (λ s. Is Name.object (0x7B ∷ s)) (sym (members_rest (m ⨾ ms) true (0x7D ∷ [])))
      (Is.of_members Is.no_ws Is.no_ws (members_are ms m (member_is m)) Is.no_ws Is.no_ws)

  members_are : (ms : Members) (m : Member) → Is Name.member (member m []) → Is Name.member_list (member m (members false ms []))
  members_are done m v = Is.last_member v
  members_are (n ⨾ ns) m v =
      subst (λ s. Is Name.member_list s) (sym (member_rest m (members false (n ⨾ ns) [])))
      (Is.next_member v Is.no_ws Is.no_ws (members_are ns n (member_is n)))

  member_is : (m : Member) → Is Name.member (member m [])
  member_is (key ⇒ x) =
      subst (λ s. Is Name.member (0x22 ∷ s)) (append_assoc (escaped (ascii key)) (0x22 ∷ []) (0x3A ∷ text x []))
      (Is.a_member (string_is (ascii key)) Is.no_ws Is.no_ws (text_json x))

-- a value and a line's end
pub json_text : (j : Json) → Is Name.JSONText (text j (0x0A ∷ []))
json_text j = subst (λ s. Is Name.JSONText s) (sym (text_rest j (0x0A ∷ []))) (Is.whole Is.no_ws (text_json j) line_end)
