-- The least specific free prefix, over the definitions.
use Rattle.std.proofs.Common.{◌≡◌, ◌⊎◌, ℕ, ◌+◌, ◌<◌, ◌≤◌, Bool, true, false, cond, List, [], ◌∷◌, ◌++◌, length, map, take, drop, Some, None, refl, sym, ap, ◌∙◌, arith, inl, inr}
use Rattle.std.specs.Prelude.{find, nat_lt, not, unwrap_or, Option, ◌&&◌, ◌||◌}
use Rattle.std.specs.List.{list_any, list_all, filter}
use Rattle.std.proofs.lemmas.Bool.{cond-true, cond-false, and_from, and_parts, not-true, not_from_false, false_from_ne_true, false≢true, lt-ltb, le-ltb, cases_lt}
use Rattle.std.proofs.lemmas.Option.{same_Some, cond_some}
use Rattle.std.proofs.lemmas.List.{append_assoc, take-append-drop, length-take, drop_more, take_more, take_all, drop_all, append-nil}
use Rattle.std.proofs.lemmas.List.Folds.{list_all-map}
use Rattle.ddt_path.specs.Path.{is_path, is_prefix_path}
use Rattle.ddt_path.specs.Covers.{covers, overlaps, is_same_path}
use Rattle.ddt_path.specs.Free.{lengthened, parts_from, overlaps_none, free, is_free, hole_of}
use Rattle.ddt_path.specs.laws.Cover.{covers_self, covers_trans, covers-append, take-covered, length-covered, next_digit, same_path, fronts_overlap}
use Rattle.ddt_path.specs.laws.Member.{IsIn, holds_at, list_any-map, any_in, in_any, some_passes}
use Rattle.ddt_path.specs.laws.Filter.{in_filter, filter_in, all_kept}
use Rattle.ddt_path.specs.laws.End.{one_identifier, overlaps_whole}

-- ---- the parts of a path

pub parts_from_fits : (n : ℕ) (x : List ℕ) → n ≤ length x → parts_from n x ≡ lengthened (take n x) (drop n x)
parts_from_fits n x le = cond-false (nat_lt (length x) n) [] (lengthened (take n x) (drop n x)) (le-ltb (length x) n le)

pub parts_from_past : (n : ℕ) (x : List ℕ) → length x < n → parts_from n x ≡ []
parts_from_past n x lt = cond-true (nat_lt (length x) n) [] (lengthened (take n x) (drop n x)) (lt-ltb (length x) n lt)

pub parts_from_next : (n : ℕ) (x : List ℕ) → n < length x → parts_from n x ≡ take n x ∷ parts_from (n + 1) x
parts_from_next n x lt =
    let le : n ≤ length x = omega arith in
    let more : n + 1 ≤ length x = omega arith in
    parts_from_fits n x le
    ∙ ap (lengthened (take n x)) (drop_more x n 0 lt) ∙ ap (λ (f : List ℕ). take n x ∷ lengthened f (drop (n + 1) x)) (sym (take_more x n 0 lt))
    ∙ ap (λ (ps : List (List ℕ)). take n x ∷ ps) (sym (parts_from_fits (n + 1) x more))

pub parts_from_last : (x : List ℕ) → parts_from (length x) x ≡ x ∷ []
parts_from_last x = parts_from_fits (length x) x (omega arith) ∙ ap (λ (f : List ℕ). lengthened f (drop (length x) x)) (take_all (length x) x (omega arith)) ∙ ap (lengthened x) (drop_all (length x) x (omega arith))

-- ---- the first part that passes a test

passes : (test : List ℕ → Bool) (p : List ℕ) (ps : List (List ℕ)) (q : List ℕ) → test p ≡ true → find test (p ∷ ps) ≡ Some q → p ≡ q
passes test p ps q t found = same_Some p q (sym (cond-true (test p) (Some p) (find test ps) t) ∙ found)

fails : (test : List ℕ → Bool) (p : List ℕ) (ps : List (List ℕ)) → test p ≡ false → find test (p ∷ ps) ≡ find test ps
fails test p ps t = cond-false (test p) (Some p) (find test ps) t

abbrev found_path : List ℕ → Option (List ℕ)
found_path q = Some q

abbrev nothing : Option (List ℕ)
nothing = None

none_not_some : (q : List ℕ) → nothing ≡ found_path q → ⊥
none_not_some q e = cc

head_fails : (test : List ℕ → Bool) (p : List ℕ) (ps : List (List ℕ)) → find test (p ∷ ps) ≡ None → test p ≡ false
head_fails test p ps none = elim (test p) as (λ b. test p ≡ b → b ≡ false) [ true ↦ λ t. absurd (none_not_some p (sym none ∙ cond-true (test p) (Some p) (find test ps) t)) | false ↦ λ t. refl ] refl

-- each part begins with the front
part-covered : (test : List ℕ → Bool) (f r q : List ℕ) → find test (lengthened f r) ≡ Some q → covers f q ≡ true
part-covered test f [] q found = ap (covers f) (sym (cond_some (test f) f q found).1) ∙ covers_self f
part-covered test f (d ∷ r) q found =
    elim (test f) as (λ b. test f ≡ b → covers f q ≡ true) [
      | true ↦ λ t. ap (covers f) (sym (passes test f (lengthened (f ++ d ∷ []) r) q t found)) ∙ covers_self f
      | false ↦ λ t. covers_trans f (f ++ d ∷ []) q (covers-append f (d ∷ [])) (part-covered test (f ++ d ∷ []) r q (sym (fails test f (lengthened (f ++ d ∷ []) r) t) ∙ found))
    ] refl

-- the front alone, whatever follows it
at_once : (test : List ℕ → Bool) (f r : List ℕ) → test f ≡ true → find test (lengthened f r) ≡ Some f
at_once test f [] t = cond-true (test f) (Some f) None t
at_once test f (d ∷ r) t = cond-true (test f) (Some f) (find test (lengthened (f ++ d ∷ []) r)) t

-- behind one front, the first part that passes is the same for all that it covers
same_part : (test : List ℕ → Bool) (f r q s : List ℕ) → find test (lengthened f r) ≡ Some q → covers q (f ++ s) ≡ true → find test (lengthened f s) ≡ Some q
same_part test f [] q s found c =
    let e = cond_some (test f) f q found in
    at_once test f s e.0 ∙ ap (λ (p : List ℕ). Some p) e.1
same_part test f (d ∷ r) q s found c =
    elim (test f) as (λ b. test f ≡ b → find test (lengthened f s) ≡ Some q) [
      | true ↦ λ t. at_once test f s t ∙ ap (λ (p : List ℕ). Some p) (passes test f (lengthened (f ++ d ∷ []) r) q t found)
      | false ↦ λ t.
          let later = sym (fails test f (lengthened (f ++ d ∷ []) r) t) ∙ found in
          let n = next_digit f d s (covers_trans (f ++ d ∷ []) q (f ++ s) (part-covered test (f ++ d ∷ []) r q later) c) in
          ap (λ (l : List ℕ). find test (lengthened f l)) n.1
          ∙ fails test f (lengthened (f ++ d ∷ []) n.0) t
          ∙ same_part test (f ++ d ∷ []) r q n.0 later (ap (covers q) (append_assoc f (d ∷ []) n.0) ∙ ap (λ (l : List ℕ). covers q (f ++ l)) (sym n.1) ∙ c)
    ] refl

-- ---- where the whole authority is free

pub free_whole : (authority : List ℕ) (s : List (List ℕ)) (x : List ℕ) → covers authority x ≡ true → overlaps_none s authority ≡ true → free authority s x ≡ Some authority
free_whole authority s x inside none =
    let front : take (length authority) x ≡ authority = take-covered authority x inside in
    ap (find (overlaps_none s)) (parts_from_fits (length authority) x (length-covered authority x inside))
    ∙ ap (λ (f : List ℕ). find (overlaps_none s) (lengthened f (drop (length authority) x))) front ∙ at_once (overlaps_none s) authority (drop (length authority) x) none

-- what was found is found among the parts of a path that is long enough
found_fits : (authority : List ℕ) (s : List (List ℕ)) (x q : List ℕ) → free authority s x ≡ Some q → length authority ≤ length x
found_fits authority s x q found =
    elim (cases_lt (length x) (length authority)) [
      | inl lt ↦ absurd (none_not_some q (sym (ap (find (overlaps_none s)) (parts_from_past (length authority) x lt)) ∙ found))
      | inr le ↦ le
    ]

-- ---- a hole is the hole of all it covers

pub hole_of_all : (authority : List ℕ) (s : List (List ℕ)) (x y q : List ℕ) → free authority s x ≡ Some q → covers q y ≡ true → free authority s y ≡ Some q
hole_of_all authority s x y q found c =
    let n = length authority in
    let test = overlaps_none s in
    let fits = found_fits authority s x q found in
    let among : find test (lengthened (take n x) (drop n x)) ≡ Some q = sym (ap (find test) (parts_from_fits n x fits)) ∙ found in
    let begins : covers (take n x) q ≡ true = part-covered test (take n x) (drop n x) q among in
    let inside : covers (take n x) y ≡ true = covers_trans (take n x) q y begins c in
    let n-long : length (take n x) ≡ n = length-take n x ∙ omega arith in
    let other : take n y ≡ take n x = ap (λ (k : ℕ). take k y) (sym n-long) ∙ take-covered (take n x) y inside in
    let y-fits : n ≤ length y = omega (arith, length-covered (take n x) y inside, n-long) in
    let moved : find test (lengthened (take n y) (drop n x)) ≡ Some q = ap (λ (f : List ℕ). find test (lengthened f (drop n x))) other ∙ among in
    ap (find test) (parts_from_fits n y y-fits) ∙ same_part test (take n y) (drop n x) q (drop n y) moved (ap (covers q) (take-append-drop n y) ∙ c)

-- ---- a hole is free

-- each part ends with the whole
part_covers : (test : List ℕ → Bool) (f r q : List ℕ) → find test (lengthened f r) ≡ Some q → covers q (f ++ r) ≡ true
part_covers test f [] q found = ap (λ (p : List ℕ). covers p (f ++ [])) (sym (cond_some (test f) f q found).1) ∙ covers-append f []
part_covers test f (d ∷ r) q found =
    elim (test f) as (λ b. test f ≡ b → covers q (f ++ d ∷ r) ≡ true) [
      | true ↦ λ t. ap (λ (p : List ℕ). covers p (f ++ d ∷ r)) (sym (passes test f (lengthened (f ++ d ∷ []) r) q t found)) ∙ covers-append f (d ∷ r)
      | false ↦ λ t. ap (covers q) (sym (append_assoc f (d ∷ []) r)) ∙ part_covers test (f ++ d ∷ []) r q (sym (fails test f (lengthened (f ++ d ∷ []) r) t) ∙ found)
    ] refl

part_passes : (test : List ℕ → Bool) (f r q : List ℕ) → find test (lengthened f r) ≡ Some q → test q ≡ true
part_passes test f [] q found = let e = cond_some (test f) f q found in ap test (sym e.1) ∙ e.0
part_passes test f (d ∷ r) q found =
    elim (test f) as (λ b. test f ≡ b → test q ≡ true) [
      | true ↦ λ t. ap test (sym (passes test f (lengthened (f ++ d ∷ []) r) q t found)) ∙ t
      | false ↦ λ t. part_passes test (f ++ d ∷ []) r q (sym (fails test f (lengthened (f ++ d ∷ []) r) t) ∙ found)
    ] refl

pub hole_is_free : (authority : List ℕ) (s : List (List ℕ)) (x q : List ℕ) → covers authority x ≡ true → free authority s x ≡ Some q → is_free authority s x q ≡ true
hole_is_free authority s x q inside free_is =
    let n = length authority in
    let test = overlaps_none s in
    let found : find test (lengthened (take n x) (drop n x)) ≡ Some q = sym (ap (find test) (parts_from_fits n x (found_fits authority s x q free_is))) ∙ free_is in
    and_from (covers q x) (covers authority q && test q)
    (ap (covers q) (sym (take-append-drop n x)) ∙ part_covers test (take n x) (drop n x) q found)
    (and_from (covers authority q) (test q)
    (ap (λ (f : List ℕ). covers f q) (sym (take-covered authority x inside)) ∙ part-covered test (take n x) (drop n x) q found)
    (part_passes test (take n x) (drop n x) q found))

-- ---- no part passes a test that each front fails

none_passes : (test : List ℕ → Bool) (f r : List ℕ) → ((p : List ℕ) → covers p (f ++ r) ≡ true → test p ≡ false) → find test (lengthened f r) ≡ None
none_passes test f [] h = cond-false (test f) (Some f) None (h f (covers-append f []))
none_passes test f (d ∷ r) h =
    fails test f (lengthened (f ++ d ∷ []) r) (h f (covers-append f (d ∷ r)))
    ∙ none_passes test (f ++ d ∷ []) r (λ p c. h p (ap (covers p) (sym (append_assoc f (d ∷ []) r)) ∙ c))

none_fits : (authority : List ℕ) (s : List (List ℕ)) (x : List ℕ) → ((p : List ℕ) → covers p x ≡ true → overlaps_none s p ≡ false) → find (overlaps_none s) (lengthened (take (length authority) x) (drop (length authority) x)) ≡ None
none_fits authority s x h =
    let n = length authority in
    none_passes (overlaps_none s) (take n x) (drop n x) (λ p c. h p (ap (covers p) (sym (take-append-drop n x)) ∙ c))

pub none_free : (authority : List ℕ) (s : List (List ℕ)) (x : List ℕ) → ((p : List ℕ) → covers p x ≡ true → overlaps_none s p ≡ false) → free authority s x ≡ None
none_free authority s x h =
    elim (cases_lt (length x) (length authority)) [
      | inl lt ↦ ap (find (overlaps_none s)) (parts_from_past (length authority) x lt)
      | inr le ↦ ap (find (overlaps_none s)) (parts_from_fits (length authority) x le) ∙ none_fits authority s x h
    ]

-- ---- lists among which the same prefixes are free

find_agree : (test other : List ℕ → Bool) (ps : List (List ℕ)) → ((p : List ℕ) → test p ≡ other p) → find test ps ≡ find other ps
find_agree test other [] same = refl
find_agree test other (p ∷ ps) same = ap (λ (b : Bool). cond b (Some p) (find test ps)) (same p) ∙ ap (cond (other p) (Some p)) (find_agree test other ps same)

pub free_agree : (authority : List ℕ) (s t : List (List ℕ)) (x : List ℕ) → ((p : List ℕ) → overlaps_none s p ≡ overlaps_none t p) → free authority s x ≡ free authority t x
free_agree authority s t x same = find_agree (overlaps_none s) (overlaps_none t) (parts_from (length authority) x) same

-- ---- what overlaps none of the prefixes that a test keeps

pub overlaps_none-filter : {A : Type 0} (prefix : A → List ℕ) (test : A → Bool) (items : List A) (q : List ℕ)
    → not (list_any (λ a. test a && overlaps (prefix a) q) items) ≡ overlaps_none (map prefix (filter test items)) q
overlaps_none-filter prefix test [] q = refl
overlaps_none-filter prefix test (a ∷ items) q =
    elim (test a) as (λ b. not ((b && overlaps (prefix a) q) || list_any (λ z. test z && overlaps (prefix z) q) items) ≡ overlaps_none (map prefix (cond b (a ∷ filter test items) (filter test items))) q) [
      | true ↦ elim (overlaps (prefix a) q) as (λ b. not (b || list_any (λ z. test z && overlaps (prefix z) q) items) ≡ (not b && overlaps_none (map prefix (filter test items)) q)) [
        | true ↦ refl
        | false ↦ overlaps_none-filter prefix test items q
      ]
      | false ↦ overlaps_none-filter prefix test items q
    ]

module _ {A : Type 0} (prefix : A → List ℕ) (test : A → Bool) (xs : List A) (q : List ℕ) where
  pub apart_from_kept : ((a : A) → IsIn a xs → test a ≡ true → overlaps (prefix a) q ≡ false) → overlaps_none (map prefix (filter test xs)) q ≡ true
  apart_from_kept h = all_kept prefix (λ (p : List ℕ). not (overlaps p q)) test xs (λ a k t. not_from_false (overlaps (prefix a) q) (h a k t))

  pub kept_apart : overlaps_none (map prefix (filter test xs)) q ≡ true → (a : A) → IsIn a xs → test a ≡ true → overlaps (prefix a) q ≡ false
  kept_apart e a k t =
      not-true (overlaps (prefix a) q) (holds_at (λ (y : A). not (overlaps (prefix y) q)) (filter test xs) a
      (sym (list_all-map (λ (p : List ℕ). not (overlaps p q)) prefix (filter test xs)) ∙ e) (filter_in test xs a k t))

-- ---- where a member covers x, nothing is free

member_apart : (s : List (List ℕ)) (key p : List ℕ) → list_any (is_same_path key) s ≡ true → overlaps_none s p ≡ true → overlaps key p ≡ false
member_apart s key p is none =
    let k = any_in (is_same_path key) s is in
    ap (λ (q : List ℕ). overlaps q p) (same_path key k.0 k.2) ∙ not-true (overlaps k.0 p) (holds_at (λ q. not (overlaps q p)) s k.0 none k.1)

pub member_covers_none : (authority : List ℕ) (s : List (List ℕ)) (x key : List ℕ) → list_any (is_same_path key) s ≡ true → covers key x ≡ true → free authority s x ≡ None
member_covers_none authority s x key is c =
    none_free authority s x (λ p d. false_from_ne_true (overlaps_none s p) (λ none.
    false≢true (sym (member_apart s key p is none) ∙ fronts_overlap key p x c d)))

-- ---- where nothing is free, a member covers

-- if no part passes, the whole doesn't
whole_fails : (test : List ℕ → Bool) (f r : List ℕ) → find test (lengthened f r) ≡ None → test (f ++ r) ≡ false
whole_fails test f [] none = ap test (append-nil f) ∙ head_fails test f [] none
whole_fails test f (d ∷ r) none =
    let rest = find test (lengthened (f ++ d ∷ []) r) in
    let later : rest ≡ None = sym (fails test f (lengthened (f ++ d ∷ []) r) (head_fails test f (lengthened (f ++ d ∷ []) r) none)) ∙ none in
    ap test (sym (append_assoc f (d ∷ []) r)) ∙ whole_fails test (f ++ d ∷ []) r later

-- a list of prefixes that an identifier overlaps has one that covers it
some_covers : (s : List (List ℕ)) (x : List ℕ) → is_path x ≡ true → list_all is_prefix_path s ≡ true → overlaps_none s x ≡ false → list_any (λ k. covers k x) s ≡ true
some_covers s x e h none =
    let k = some_passes (λ p. overlaps p x) s none in
    in_any (λ p. covers p x) s k.0 k.1 (sym (overlaps_whole x k.0 e (holds_at is_prefix_path s k.0 h k.1)) ∙ k.2)

pub none_free_covered : (authority : List ℕ) (s : List (List ℕ)) (x : List ℕ) → is_path x ≡ true → list_all is_prefix_path s ≡ true → covers authority x ≡ true → free authority s x ≡ None → list_any (λ k. covers k x) s ≡ true
none_free_covered authority s x e h inside none =
    let n = length authority in
    let test = overlaps_none s in
    let parts : find test (lengthened (take n x) (drop n x)) ≡ None = sym (ap (find test) (parts_from_fits n x (length-covered authority x inside))) ∙ none in
    some_covers s x e h (sym (ap test (take-append-drop n x)) ∙ whole_fails test (take n x) (drop n x) parts)

-- where nothing is free among the prefixes that a test keeps, one of them covers
pub kept_covers : {A : Type 0} (prefix : A → List ℕ) (test : A → Bool) (xs : List A) (authority x : List ℕ) → is_path x ≡ true
    → ((a : A) → IsIn a xs → is_prefix_path (prefix a) ≡ true) → covers authority x ≡ true → free authority (map prefix (filter test xs)) x ≡ None
    → (a : A) × IsIn a xs × (test a ≡ true) × (covers (prefix a) x ≡ true)
kept_covers prefix test xs authority x e are inside none =
    let prefixes = all_kept prefix is_prefix_path test xs (λ a k t. are a k) in
    let some = none_free_covered authority (map prefix (filter test xs)) x e prefixes inside none in
    let found = any_in (λ a. covers (prefix a) x) (filter test xs) (sym (list_any-map (λ p. covers p x) prefix (filter test xs)) ∙ some) in
    let p = in_filter test xs found.0 found.1 in
    (found.0, p.0, p.1, found.2)

-- ---- the hole's prefix

pub hole_covers : (authority : List ℕ) (keys : List (List ℕ)) (x : List ℕ) → covers authority x ≡ true → covers (hole_of authority keys x) x ≡ true
hole_covers authority keys x inside = go (free authority keys x) refl
  where
    go : (found : Option (List ℕ)) → free authority keys x ≡ found → covers (unwrap_or found x) x ≡ true
    go None e = covers_self x
    go (Some q) e = (and_parts (covers q x) (covers authority q && overlaps_none keys q) (hole_is_free authority keys x q inside e)).0

-- where something is free the hole is free
pub hole_is : (authority : List ℕ) (keys : List (List ℕ)) (x q : List ℕ) → (free authority keys x ≡ None → ⊥) → hole_of authority keys x ≡ q → free authority keys x ≡ Some q
hole_is authority keys x q some is = go (free authority keys x) refl is
  where
    go : (found : Option (List ℕ)) → free authority keys x ≡ found → unwrap_or found x ≡ q → free authority keys x ≡ Some q
    go None at is = absurd (some at)
    go (Some p) at is = at ∙ ap (λ (l : List ℕ). Some l) is

-- a free prefix that covers x is the hole of each y that it covers
pub record IsFreeOf (authority : List ℕ) (keys : List (List ℕ)) (y q : List ℕ) : Type 0 where
  pub inside : covers authority q ≡ true
  pub clear : overlaps_none keys q ≡ true
  pub same : hole_of authority keys y ≡ q

pub hole_of_all_or_alone : (authority : List ℕ) (keys : List (List ℕ)) (x y q : List ℕ) → is_path x ≡ true → is_path y ≡ true → covers authority x ≡ true → hole_of authority keys x ≡ q → covers q y ≡ true
    → (x ≡ y) ⊎ IsFreeOf authority keys y q
hole_of_all_or_alone authority keys x y q e f inside is c = go (free authority keys x) refl is
  where
    go : (found : Option (List ℕ)) → free authority keys x ≡ found → unwrap_or found x ≡ q → (x ≡ y) ⊎ IsFreeOf authority keys y q
    go None at is = inl (one_identifier x y e f (ap (λ (p : List ℕ). covers p y) is ∙ c))
    go (Some p) at is =
        let found : free authority keys x ≡ Some q = at ∙ ap (λ (p : List ℕ). Some p) is in
        let parts = and_parts (covers q x) (covers authority q && overlaps_none keys q) (hole_is_free authority keys x q inside found) in
        let more = and_parts (covers authority q) (overlaps_none keys q) parts.1 in
        inr (record {
          inside = more.0;
          clear = more.1;
          same = ap (λ (o : Option (List ℕ)). unwrap_or o y) (hole_of_all authority keys x y q found c);
        })
