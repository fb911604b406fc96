-- The keys of a finite map, and the free prefixes among them.
use Rattle.std.proofs.Common.{◌≡◌, ℕ, ◌+◌, ◌<◌, Bool, true, false, cond, List, [], ◌∷◌, length, take, Some, None, Option, refl, sym, ap, subst, ◌∙◌}
use Rattle.std.specs.Prelude.{◌||◌, not, ◌&&◌, filter, find as find_part, is_some, IfNone, IsNone}
use Rattle.std.specs.Bool.{then_some}
use Rattle.std.specs.List.{list_all, list_any}
use Rattle.std.specs.FinMap.{FinMap, keys, contains_key, contains_key-keys}
use Rattle.std.proofs.lemmas.Bool.{and_from, and_parts, false≢true, not-true, cond-true, cond-false}
use Rattle.ddt_path.specs.Covers.{covers, overlaps, is_same_path}
use Rattle.std.specs.Cmp.Lexicographic.{texts_ties}
use Rattle.ddt_path.specs.Free.{parts_from, overlaps_none, free}
use Rattle.ddt_trie.specs.PrefixMap.{path_cmp, IsCovered}
use Rattle.ddt_trie.specs.Entries.{map_of, none_covers}
use Rattle.ddt_trie.specs.laws.Entry.{tied, tied-true, tied_self, get-map_of}
use Rattle.ddt_trie.specs.laws.Pass.{keys_pass, found_pass, key_passes}
use Rattle.ddt_path.specs.laws.Cover.{overlaps-take}
use Rattle.ddt_path.specs.laws.Filter.{in_filter, filter_in}
use Rattle.ddt_path.specs.laws.Member.{all_of, any_in, in_any, holds_at, iff_same}
use Rattle.ddt_path.specs.laws.Hole.{parts_from_next, parts_from_last, free_agree}

-- ---- a test of each key

pub all_from_members : (test : List ℕ → Bool) (ks : List (List ℕ)) → ((q : List ℕ) → list_any (tied q) ks ≡ true → test q ≡ true) → list_all test ks ≡ true
all_from_members test ks h = all_of test ks (λ q k. h q (in_any (tied q) ks q k (tied_self q)))

pub member_passes : (test : List ℕ → Bool) (ks : List (List ℕ)) (q : List ℕ) → list_all test ks ≡ true → list_any (tied q) ks ≡ true → test q ≡ true
member_passes test ks q all m =
    let k = any_in (tied q) ks m in
    ap test (tied-true q k.0 k.2) ∙ holds_at test ks k.0 all k.1

-- what a test keeps has those members that pass it
pub any_kept : (test : List ℕ → Bool) (ks : List (List ℕ)) (q : List ℕ) → list_any (tied q) (filter test ks) ≡ (list_any (tied q) ks && test q)
any_kept test ks q = iff_same (list_any (tied q) (filter test ks)) (list_any (tied q) ks && test q)
    (λ m.
    let k = any_in (tied q) (filter test ks) m in
    let p = in_filter test ks k.0 k.1 in
    and_from (list_any (tied q) ks) (test q) (in_any (tied q) ks k.0 p.0 k.2) (ap test (tied-true q k.0 k.2) ∙ p.1))
    (λ m.
    let p = and_parts (list_any (tied q) ks) (test q) m in
    let k = any_in (tied q) ks p.0 in
    in_any (tied q) (filter test ks) k.0 (filter_in test ks k.0 k.1 (ap test (sym (tied-true q k.0 k.2)) ∙ p.1)) k.2)

-- lists with the same members answer alike
pub same_members_all : (test : List ℕ → Bool) (ks ls : List (List ℕ)) → ((q : List ℕ) → list_any (tied q) ks ≡ list_any (tied q) ls) → list_all test ks ≡ list_all test ls
same_members_all test ks ls same = iff_same (list_all test ks) (list_all test ls)
    (λ all. all_from_members test ls (λ q m. member_passes test ks q all (same q ∙ m)))
    (λ all. all_from_members test ks (λ q m. member_passes test ls q all (sym (same q) ∙ m)))

module _ {V : Type 0} where
  pub all_keys : (test : List ℕ → Bool) (es : List (List ℕ × V)) → list_all test (keys (map_of es)) ≡ list_all (λ e. test e.0) es
  all_keys test es = iff_same (list_all test (keys (map_of es))) (list_all (λ e. test e.0) es)
      (λ all. found_pass test es (λ q m. member_passes test (keys (map_of es)) q all (sym (contains_key-keys (map_of es) q) ∙ ap (λ (o : Option V). is_some o) (get-map_of es q) ∙ m)))
      (λ all. all_from_members test (keys (map_of es)) (λ q m. keys_pass test es q all (ap (λ (o : Option V). is_some o) (sym (get-map_of es q)) ∙ contains_key-keys (map_of es) q ∙ m)))

  -- some key that covers x
  pub some_covers : (s es : List (List ℕ × V)) (x : List ℕ) (r : Bool) → s ≡ es → r ≡ none_covers s x → r ≡ false → IsCovered (map_of es) x
  some_covers s es x r same answer no' =
      key_passes (λ p. covers p x) es (ap (λ (l : List (List ℕ × V)). none_covers l x) (sym same) ∙ sym answer ∙ no')

  -- ---- the parts of x, each against the keys

  pub tested : (s es : List (List ℕ × V)) (q : List ℕ) (r b : Bool) → s ≡ es → r ≡ list_all (λ e. not (overlaps e.0 q)) s → r ≡ b → overlaps_none (keys (map_of es)) q ≡ b
  tested s es q r b same answer is =
      all_keys (λ p. not (overlaps p q)) es ∙ ap (list_all (λ (e : List ℕ × V). not (overlaps e.0 q))) (sym same) ∙ sym answer ∙ is

  -- where a key covers x, no part of x is free
  pub no_free_part : (es : List (List ℕ × V)) (x : List ℕ) (n : ℕ) → overlaps_none (keys (map_of es)) (take n x) ≡ true → IsCovered (map_of es) x → ⊥
  no_free_part es x n none c =
      let apart = member_passes (λ p. not (overlaps p (take n x))) (keys (map_of es)) c.0 none (sym (contains_key-keys (map_of es) c.0) ∙ c.1) in
      false≢true (sym (not-true (overlaps c.0 (take n x)) apart) ∙ overlaps-take c.0 x n c.2)

pub free_start : (authority : List ℕ) (s : List (List ℕ)) (x : List ℕ) (n : ℕ) → n ≡ length authority → free authority s x ≡ find_part (overlaps_none s) (parts_from n x)
free_start authority s x n is = ap (λ (k : ℕ). find_part (overlaps_none s) (parts_from k x)) (sym is)

pub free_here : (authority : List ℕ) (s : List (List ℕ)) (x : List ℕ) (n : ℕ) → n < length x → free authority s x ≡ find_part (overlaps_none s) (parts_from n x) → overlaps_none s (take n x) ≡ true → free authority s x ≡ Some (take n x)
free_here authority s x n lt told t =
    told ∙ ap (find_part (overlaps_none s)) (parts_from_next n x lt) ∙ cond-true (overlaps_none s (take n x)) (Some (take n x)) (find_part (overlaps_none s) (parts_from (n + 1) x)) t

pub free_later : (authority : List ℕ) (s : List (List ℕ)) (x : List ℕ) (n : ℕ) → n < length x → free authority s x ≡ find_part (overlaps_none s) (parts_from n x) → overlaps_none s (take n x) ≡ false
    → free authority s x ≡ find_part (overlaps_none s) (parts_from (n + 1) x)
free_later authority s x n lt told t =
    told ∙ ap (find_part (overlaps_none s)) (parts_from_next n x lt) ∙ cond-false (overlaps_none s (take n x)) (Some (take n x)) (find_part (overlaps_none s) (parts_from (n + 1) x)) t

pub free_last : (authority : List ℕ) (s : List (List ℕ)) (x : List ℕ) (n : ℕ) (b : Bool) → n ≡ length x → free authority s x ≡ find_part (overlaps_none s) (parts_from n x) → overlaps_none s x ≡ b → free authority s x ≡ cond b (Some x) None
free_last authority s x n b at told t =
    told ∙ ap (λ (k : ℕ). find_part (overlaps_none s) (parts_from k x)) at ∙ ap (find_part (overlaps_none s)) (parts_from_last x) ∙ ap (λ (c : Bool). cond c (Some x) None) t

-- ---- the identifier itself, tried last

pub host_part : (r : Option (List ℕ)) (b : Bool) (h x : List ℕ) → r ≡ then_some b h → h ≡ x → r ≡ cond b (Some x) None
host_part r true h x is same = is ∙ ap (λ (p : List ℕ). Some p) same
host_part r false h x is same = is

pub none_alone : (r : Option (List ℕ)) (b : Bool) (h : List ℕ) (P : Type 0) → r ≡ then_some b h → (b ≡ false → P) → IfNone r P
none_alone r true h P is p = subst (λ (o : Option (List ℕ)). IfNone o P) (sym is) tt
none_alone r false h P is p = subst (λ (o : Option (List ℕ)). IfNone o P) (sym is) (p refl)

pub none_where : (r : Option (List ℕ)) (b : Bool) (h : List ℕ) (P : Type 0) → r ≡ then_some b h → (b ≡ true → P → ⊥) → P → IsNone r
none_where r true h P is no' p = absurd (no' refl p)
none_where r false h P is no' p = subst (λ (o : Option (List ℕ)). IsNone o) (sym is) refl

-- ---- lists with the same members

pub any_same : (p : List ℕ) (ks : List (List ℕ)) → list_any (is_same_path p) ks ≡ list_any (tied p) ks
any_same p [] = refl
any_same p (k ∷ ks) = ap (λ (b : Bool). b || list_any (is_same_path p) ks) (texts_ties p k) ∙ ap (λ (b : Bool). tied p k || b) (any_same p ks)

pub members_free : {V : Type 0} (m : FinMap path_cmp V) (members : List (List ℕ)) → ((p : List ℕ) → contains_key m p ≡ list_any (is_same_path p) members) → (authority x : List ℕ) → free authority (keys m) x ≡ free authority members x
members_free m members same authority x =
    free_agree authority (keys m) members x (λ q. same_members_all (λ p. not (overlaps p q)) (keys m) members (λ p. sym (contains_key-keys m p) ∙ same p ∙ any_same p members))
