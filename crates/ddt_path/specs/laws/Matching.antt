-- The best match of a list, the longest or the shortest, by what the items of the list are. Which items a list has, and
-- which of them pass a test, is in MemberLemmas; what a test keeps of a list is in FilterLemmas.
use Rattle.std.proofs.Common.{◌≡◌, ◌⊎◌, ℕ, ◌+◌, ◌<◌, ◌≤◌, Bool, true, false, cond, List, [], ◌∷◌, length, get_or, drop, map, find, Option, Some, None, refl, sym, ap, ◌∙◌, arith, inl, inr}
use Rattle.std.specs.Prelude.{MatchOption, ◌&&◌}
use Rattle.std.specs.List.{filter}
use Rattle.std.specs.Option.{option_map, option_map_or}
use Rattle.std.proofs.lemmas.Bool.{cond-true, cond-false, lt-ltb, le-ltb, ltb-true, ltb-false, false≢true, false_from_ne_true, and_cases}
use Rattle.std.proofs.lemmas.List.{drop_more}
use Rattle.std.proofs.lemmas.Option.{none-some, same_Some, MatchOption-at_some, MatchOption-at_none}
use Rattle.ddt_path.specs.declared.matches.Preference.{Preference}
use Rattle.ddt_path.specs.declared.matches.Preference.TheVariants.{Longest, Shortest}
use Rattle.ddt_path.specs.Covers.{covers, is_same_path}
use Rattle.ddt_path.specs.Matching.{is_better, better_of, best_match}
use Rattle.ddt_path.specs.laws.Cover.{same_path, path_itself}
use Rattle.ddt_path.specs.laws.Member.{IsIn}

-- ---- which of two lengths is preferred

is_better-trans : (w : Preference) (l m n : ℕ) → is_better w l m ≡ true → is_better w m n ≡ true → is_better w l n ≡ true
is_better-trans Longest l m n e f = let a = ltb-true m l e in let b = ltb-true n m f in lt-ltb n l (omega arith)
is_better-trans Shortest l m n e f = let a = ltb-true l m e in let b = ltb-true m n f in lt-ltb l n (omega arith)

is_better-not : (w : Preference) (l m n : ℕ) → is_better w l m ≡ false → is_better w m n ≡ false → is_better w l n ≡ false
is_better-not Longest l m n e f = let a = ltb-false m l e in let b = ltb-false n m f in le-ltb n l (omega arith)
is_better-not Shortest l m n e f = let a = ltb-false l m e in let b = ltb-false m n f in le-ltb l n (omega arith)

-- one length is preferred to another, or at least as good
abbrev pub IsBetter : Preference → ℕ → ℕ → Type 0
IsBetter Longest m n = n < m
IsBetter Shortest m n = m < n

abbrev pub IsAsGood : Preference → ℕ → ℕ → Type 0
IsAsGood Longest m n = n ≤ m
IsAsGood Shortest m n = m ≤ n

is_better-from : (w : Preference) (m n : ℕ) → IsBetter w m n → is_better w m n ≡ true
is_better-from Longest m n lt = lt-ltb n m lt
is_better-from Shortest m n lt = lt-ltb m n lt

as_good : (w : Preference) (m n : ℕ) → is_better w m n ≡ false → IsAsGood w n m
as_good Longest m n e = ltb-false n m e
as_good Shortest m n e = ltb-false m n e

-- nothing is preferred to itself, nor both ways
is_better-self : (w : Preference) (n : ℕ) → is_better w n n ≡ false
is_better-self Longest n = le-ltb n n (omega arith)
is_better-self Shortest n = le-ltb n n (omega arith)

is_better-back : (w : Preference) (m n : ℕ) → is_better w m n ≡ true → is_better w n m ≡ false
is_better-back Longest m n e = let lt = ltb-true n m e in le-ltb m n (omega arith)
is_better-back Shortest m n e = let lt = ltb-true m n e in le-ltb n m (omega arith)

module _ {A : Type 0} (w : Preference) (prefix : A → List ℕ) where
  -- whether b is preferred to a
  abbrev beats : A → A → Bool
  beats b a = is_better w (length (prefix b)) (length (prefix a))

  -- ---- item by item

  -- what was found so far, and what is found in the rest
  abbrev pub best_of : Option A → Option A → Option A
  best_of None rest = rest
  best_of (Some a) rest = Some (better_of w prefix a rest)

  pub best_of-next : (best : Option A) (a : A) → Some (option_map_or (λ first. better_of w prefix first (Some a)) best a) ≡ best_of best (Some a)
  best_of-next None a = refl
  best_of-next (Some b) a = refl

  better_of-better : (a b : A) (rest : Option A) → better_of w prefix a (Some (better_of w prefix b rest)) ≡ better_of w prefix (better_of w prefix a (Some b)) rest
  better_of-better a b None = refl
  better_of-better a b (Some c) = go (beats c b) refl (beats b a) refl
    where
      go : (s : Bool) → beats c b ≡ s → (t : Bool) → beats b a ≡ t → better_of w prefix a (Some (better_of w prefix b (Some c))) ≡ better_of w prefix (better_of w prefix a (Some b)) (Some c)
      go true e true f = rw (e, f, e, is_better-trans w (length (prefix c)) (length (prefix b)) (length (prefix a)) e f) refl
      go true e false f = rw (e, f) refl
      go false e true f = rw (e, f, e) refl
      go false e false f = rw (e, f, is_better-not w (length (prefix c)) (length (prefix b)) (length (prefix a)) e f) refl

  -- one more item that covers
  best_of-covers : (best : Option A) (a : A) (others : List A) (x : List ℕ) → covers (prefix a) x ≡ true
      → best_of best (best_match w prefix (a ∷ others) x) ≡ best_of (best_of best (Some a)) (best_match w prefix others x)
  best_of-covers None a others x e = cond-true (covers (prefix a) x) _ _ e
  best_of-covers (Some b) a others x e =
      ap (λ (o : Option A). best_of (Some b) o) (cond-true (covers (prefix a) x) _ _ e)
      ∙ ap (λ (m : A). Some m) (better_of-better b a (best_match w prefix others x))

  -- one more item that doesn't
  pub best_match-skip : (a : A) (others : List A) (x : List ℕ) → covers (prefix a) x ≡ false → best_match w prefix (a ∷ others) x ≡ best_match w prefix others x
  best_match-skip a others x e = cond-false (covers (prefix a) x) _ _ e

  -- ---- under a test

  module _ (test : A → Bool) (items : List A) (x : List ℕ) (i : ℕ) (a : A) (lt : i < length items) (at : a ≡ get_or items i a) where
    left_first : filter test (drop i items) ≡ cond (test a) (a ∷ filter test (drop (i + 1) items)) (filter test (drop (i + 1) items))
    left_first = ap (filter test) (drop_more items i a lt) ∙ ap (λ (b : A). cond (test b) (b ∷ filter test (drop (i + 1) items)) (filter test (drop (i + 1) items))) (sym at)

    fails_case : (rest : List A) (b : Bool) → (covers (prefix a) x && b) ≡ false → best_match w prefix (cond b (a ∷ rest) rest) x ≡ best_match w prefix rest x
    fails_case rest true e = best_match-skip a rest x (elim (and_cases (covers (prefix a) x) true e) [ inl h ↦ h | inr h ↦ absurd cc ])
    fails_case rest false e = refl

    -- one more item that covers and passes
    pub best_of-passes : (best total : Option A) → covers (prefix a) x ≡ true → test a ≡ true
        → best_of best (best_match w prefix (filter test (drop i items)) x) ≡ total → best_of (best_of best (Some a)) (best_match w prefix (filter test (drop (i + 1) items)) x) ≡ total
    best_of-passes best total e passes so_far =
        sym (best_of-covers best a (filter test (drop (i + 1) items)) x e)
        ∙ ap (λ (r : List A). best_of best (best_match w prefix r x)) (sym (left_first ∙ cond-true (test a) _ _ passes))
        ∙ so_far

    -- one more item that doesn't cover, or fails
    pub best_of-fails : (best total : Option A) → (covers (prefix a) x && test a) ≡ false
        → best_of best (best_match w prefix (filter test (drop i items)) x) ≡ total → best_of best (best_match w prefix (filter test (drop (i + 1) items)) x) ≡ total
    best_of-fails best total e so_far =
        ap (best_of best) (sym (ap (λ (r : List A). best_match w prefix r x) left_first ∙ fails_case (filter test (drop (i + 1) items)) (test a) e)) ∙ so_far

  -- ---- by what the items of a list are

  -- the better of two is the first, or it beats the first
  better_either : (z : A) (m : Option A) → (better_of w prefix z m ≡ z) ⊎ ((m ≡ Some (better_of w prefix z m)) × (beats (better_of w prefix z m) z ≡ true))
  better_either z None = inl refl
  better_either z (Some b) = elim (beats b z) as (λ t. beats b z ≡ t → (cond t b z ≡ z) ⊎ ((Some b ≡ Some (cond t b z)) × (beats (cond t b z) z ≡ true))) [ true ↦ λ e. inr (refl, e) | false ↦ λ e. inl refl ] refl

  -- the better of two is beaten by neither
  unbeaten_first : (z : A) (m : Option A) → beats z (better_of w prefix z m) ≡ false
  unbeaten_first z None = is_better-self w (length (prefix z))
  unbeaten_first z (Some b) = go (beats b z) refl
    where
      go : (t : Bool) → beats b z ≡ t → beats z (cond t b z) ≡ false
      go true e = is_better-back w (length (prefix b)) (length (prefix z)) e
      go false e = is_better-self w (length (prefix z))

  unbeaten_later : (z b : A) → beats b (better_of w prefix z (Some b)) ≡ false
  unbeaten_later z b = go (beats b z) refl
    where
      go : (t : Bool) → beats b z ≡ t → beats b (cond t b z) ≡ false
      go true e = is_better-self w (length (prefix b))
      go false e = e

  module _ (x : List ℕ) where
    -- what is chosen is a member that covers
    abbrev pub IsCovering : List A → A → Type 0
    IsCovering xs a = IsIn a xs × (covers (prefix a) x ≡ true)

    member_case : (z : A) (xs : List A) (a l : A) (m : Option A) → (l ≡ z) ⊎ ((m ≡ Some l) × (beats l z ≡ true)) → (m ≡ Some a → IsCovering xs a) → (c : Bool) → covers (prefix z) x ≡ c → cond c (Some l) m ≡ Some a → IsCovering (z ∷ xs) a
    member_case z xs a l m either ih false t e = let p = ih e in (inr p.0, p.1)
    member_case z xs a l m (inl first) ih true t e =
        let same : a ≡ z = sym (same_Some l a e) ∙ first in
        (inl same, ap (λ (y : A). covers (prefix y) x) same ∙ t)
    member_case z xs a l m (inr later) ih true t e = let p = ih (later.0 ∙ e) in (inr p.0, p.1)

    pub best_member : (xs : List A) (a : A) → best_match w prefix xs x ≡ Some a → IsCovering xs a
    best_member [] a e = absurd (none-some a e)
    best_member (z ∷ xs) a e =
        let m = best_match w prefix xs x in
        member_case z xs a (better_of w prefix z m) m (better_either z m) (best_member xs a) (covers (prefix z) x) refl e

    -- and of those of its prefix it is the first
    first_case : (z a : A) (rest : Option A) → (z ≡ a) ⊎ ((rest ≡ Some a) × (prefix z ≡ prefix a → ⊥)) → cond (is_same_path (prefix a) (prefix z)) (Some z) rest ≡ Some a
    first_case z a rest (inl same) =
        cond-true (is_same_path (prefix a) (prefix z)) (Some z) rest (path_itself (prefix a) (prefix z) (ap prefix (sym same))) ∙ ap (λ (y : A). Some y) same
    first_case z a rest (inr other) =
        cond-false (is_same_path (prefix a) (prefix z)) (Some z) rest (false_from_ne_true (is_same_path (prefix a) (prefix z)) (λ t. other.1 (sym (same_path (prefix a) (prefix z) t))))
        ∙ other.0

    which : (z : A) (xs : List A) (a : A) (m : Option A) (c : Bool) → best_match w prefix xs x ≡ m → covers (prefix z) x ≡ c → cond c (Some (better_of w prefix z m)) m ≡ Some a
        → (z ≡ a) ⊎ ((best_match w prefix xs x ≡ Some a) × (prefix z ≡ prefix a → ⊥))
    which z xs a m false is t e =
        let found = is ∙ e in
        inr (found, λ same. false≢true (sym t ∙ ap (λ (p : List ℕ). covers p x) same ∙ (best_member xs a found).1))
    which z xs a m true is t e =
        let same : better_of w prefix z m ≡ a = same_Some (better_of w prefix z m) a e in
        elim (better_either z m) [
          | inl first ↦ inl (sym first ∙ same)
          | inr later ↦ inr (
            is ∙ later.0 ∙ e,
            λ one.
                false≢true (sym (is_better-self w (length (prefix z))) ∙ ap (λ (p : List ℕ). is_better w (length p) (length (prefix z))) (one ∙ ap prefix (sym same)) ∙ later.1),
          )
        ]

    pub best_first : (xs : List A) (a : A) → best_match w prefix xs x ≡ Some a → find (λ b. is_same_path (prefix a) (prefix b)) xs ≡ Some a
    best_first [] a e = absurd (none-some a e)
    best_first (z ∷ xs) a e =
        first_case z a (find (λ b. is_same_path (prefix a) (prefix b)) xs) (elim (which z xs a (best_match w prefix xs x) (covers (prefix z) x) refl refl e) [
          | inl same ↦ inl same
          | inr other ↦ inr (best_first xs a other.0, other.1)
        ])

    -- where no member covers there is none
    pub best_none : (xs : List A) → ((b : A) → IsIn b xs → covers (prefix b) x ≡ false) → best_match w prefix xs x ≡ None
    best_none [] h = refl
    best_none (z ∷ xs) h = cond-false (covers (prefix z) x) _ _ (h z (inl refl)) ∙ best_none xs (λ b k. h b (inr k))

    -- the best match is there, and no member that covers beats it
    abbrev IsUnbeaten : A → Option A → Type 0
    IsUnbeaten b found = MatchOption found ⊥ (λ a. beats b a ≡ false)

    unbeaten_more : (z b : A) (m : Option A) → IsUnbeaten b m → (t : Bool) → IsUnbeaten b (cond t (Some (better_of w prefix z m)) m)
    unbeaten_more z b m h false = h
    unbeaten_more z b None h true = absurd h
    unbeaten_more z b (Some a) h true = is_better-not w (length (prefix b)) (length (prefix a)) (length (prefix (better_of w prefix z (Some a)))) h (unbeaten_later z a)

    unbeaten : (xs : List A) (b : A) → IsIn b xs → covers (prefix b) x ≡ true → IsUnbeaten b (best_match w prefix xs x)
    unbeaten [] b k c = absurd k
    unbeaten (z ∷ xs) b (inl same) c =
        let m = best_match w prefix xs x in
        let t : covers (prefix z) x ≡ true = ap (λ (y : A). covers (prefix y) x) (sym same) ∙ c in
        rw t (ap (λ (y : A). beats y (better_of w prefix z m)) same ∙ unbeaten_first z m)
    unbeaten (z ∷ xs) b (inr later) c = unbeaten_more z b (best_match w prefix xs x) (unbeaten xs b later c) (covers (prefix z) x)

    pub best_unbeaten : (xs : List A) (a b : A) → best_match w prefix xs x ≡ Some a → IsIn b xs → covers (prefix b) x ≡ true → IsAsGood w (length (prefix a)) (length (prefix b))
    best_unbeaten xs a b e k c = as_good w (length (prefix b)) (length (prefix a)) (MatchOption-at_some ⊥ (λ (y : A). beats b y ≡ false) a e (unbeaten xs b k c))

    pub best_there : (xs : List A) (b : A) → best_match w prefix xs x ≡ None → IsIn b xs → covers (prefix b) x ≡ true → ⊥
    best_there xs b e k c = MatchOption-at_none ⊥ (λ (y : A). beats b y ≡ false) e (unbeaten xs b k c)

    -- where a member covers there is a best match, at least as good
    pub best_found : (xs : List A) (b : A) → IsIn b xs → covers (prefix b) x ≡ true → (a : A) × (best_match w prefix xs x ≡ Some a) × IsAsGood w (length (prefix a)) (length (prefix b))
    best_found xs b k c = go (best_match w prefix xs x) refl
      where
        go : (found : Option A) → best_match w prefix xs x ≡ found → (a : A) × (best_match w prefix xs x ≡ Some a) × IsAsGood w (length (prefix a)) (length (prefix b))
        go None e = absurd (best_there xs b e k c)
        go (Some a) e = (a, e, best_unbeaten xs a b e k c)

    -- the one best of the members that cover is the best match
    abbrev pub IsBeatenBy : A → A → Type 0
    IsBeatenBy a b = (b ≡ a) ⊎ IsBetter w (length (prefix a)) (length (prefix b))

    no_better : (a b : A) → IsBeatenBy a b → beats b a ≡ false
    no_better a b (inl same) = ap (λ (y : A). beats y a) same ∙ is_better-self w (length (prefix a))
    no_better a b (inr better) = is_better-back w (length (prefix a)) (length (prefix b)) (is_better-from w (length (prefix a)) (length (prefix b)) better)

    stays_best : (z a : A) (m : Option A) → z ≡ a → ((b : A) → m ≡ Some b → IsBeatenBy a b) → better_of w prefix z m ≡ a
    stays_best z a None same h = same
    stays_best z a (Some b) same h = cond-false (beats b z) b z (ap (λ (y : A). beats b y) same ∙ no_better a b (h b refl)) ∙ same

    becomes_best : (z a : A) → IsBeatenBy a z → better_of w prefix z (Some a) ≡ a
    becomes_best z a (inl same) = cond-false (beats a z) a z (ap (λ (y : A). beats a y) same ∙ is_better-self w (length (prefix a))) ∙ same
    becomes_best z a (inr better) = cond-true (beats a z) a z (is_better-from w (length (prefix a)) (length (prefix z)) better)

    pub best_is : (xs : List A) (a : A) → IsIn a xs → covers (prefix a) x ≡ true → ((b : A) → IsIn b xs → covers (prefix b) x ≡ true → IsBeatenBy a b) → best_match w prefix xs x ≡ Some a
    best_is [] a k c h = absurd k
    best_is (z ∷ xs) a (inl same) c h =
        let m = best_match w prefix xs x in
        cond-true (covers (prefix z) x) _ _ (ap (λ (y : A). covers (prefix y) x) (sym same) ∙ c)
        ∙ ap (λ (y : A). Some y) (stays_best z a m (sym same) (λ b e. let p = best_member xs b e in h b (inr p.0) p.1))
    best_is (z ∷ xs) a (inr later) c h =
        let found = best_is xs a later c (λ b k. h b (inr k)) in
        rw found (go (covers (prefix z) x) refl)
      where
        go : (t : Bool) → covers (prefix z) x ≡ t → cond t (Some (better_of w prefix z (Some a))) (Some a) ≡ Some a
        go true e = ap (λ (y : A). Some y) (becomes_best z a (h z (inl refl) e))
        go false e = refl

    -- members that don't cover may be left out
    filter_case : (z : A) (kept : List A) (m : Option A) → best_match w prefix kept x ≡ m → (b c : Bool) → covers (prefix z) x ≡ c → (c ≡ true → b ≡ true)
        → best_match w prefix (cond b (z ∷ kept) kept) x ≡ cond c (Some (better_of w prefix z m)) m
    filter_case z kept m ih true c u h = rw (ih, u) refl
    filter_case z kept m ih false true u h = absurd (false≢true (h refl))
    filter_case z kept m ih false false u h = ih

    pub best_match-filter : (test : A → Bool) (xs : List A) → ((a : A) → IsIn a xs → covers (prefix a) x ≡ true → test a ≡ true) → best_match w prefix (filter test xs) x ≡ best_match w prefix xs x
    best_match-filter test [] h = refl
    best_match-filter test (z ∷ xs) h = filter_case z (filter test xs) (best_match w prefix xs x) (best_match-filter test xs (λ a k. h a (inr k))) (test z) (covers (prefix z) x) refl (h z (inl refl))

-- the best match of what is made of each item
module _ {A B : Type 0} (w : Preference) (f : A → B) (prefix : B → List ℕ) where
  better_of-map : (z : A) (m : Option A) → better_of w prefix (f z) (option_map f m) ≡ f (better_of w (λ a. prefix (f a)) z m)
  better_of-map z None = refl
  better_of-map z (Some b) = elim (is_better w (length (prefix (f b))) (length (prefix (f z)))) as (λ t. cond t (f b) (f z) ≡ f (cond t b z)) [ true ↦ refl | false ↦ refl ]

  map_case : (z : A) (m : Option A) (c : Bool) → cond c (Some (better_of w prefix (f z) (option_map f m))) (option_map f m) ≡ option_map f (cond c (Some (better_of w (λ a. prefix (f a)) z m)) m)
  map_case z m true = ap (λ (y : B). Some y) (better_of-map z m)
  map_case z m false = refl

  pub best_match-map : (xs : List A) (x : List ℕ) → best_match w prefix (map f xs) x ≡ option_map f (best_match w (λ a. prefix (f a)) xs x)
  best_match-map [] x = refl
  best_match-map (z ∷ xs) x = rw (best_match-map xs x) (map_case z (best_match w (λ a. prefix (f a)) xs x) (covers (prefix (f z)) x))
