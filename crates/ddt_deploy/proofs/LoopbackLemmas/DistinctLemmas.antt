-- Lists of locators of which none stands twice, put together from the locators of groups.
use Rattle.std.proofs.Common.{◌≡◌, ℕ, zero, suc, ◌<◌, Bool, true, false, ◌&&◌, ◌||◌, List, [], ◌∷◌, ◌++◌, length, map, Some, refl, sym, ap, ◌∙◌, arith, inl, inr}
use Rattle.std.specs.Prelude.{not, nat_lt, slice_get}
use Rattle.std.specs.List.{list_any, flat_map}
use Rattle.std.proofs.lemmas.Bool.{and_parts, or_parts, not-true, both_ways}
use Rattle.std.proofs.lemmas.List.Folds.{list_any-append}
use Rattle.ddt_path.specs.declared.locator.Locator.{Locator}
use Rattle.ddt_path.specs.Locators.{is_same_locator, lists, are_distinct}
use Rattle.ddt_path.specs.laws.Locator.{is_same_locator_self}
use Rattle.ddt_path.specs.laws.Member.{IsIn, in_get, in_any}
use Rattle.ddt_register.specs.declared.group.Group.{Group}
use Rattle.ddt_register.specs.Rows.{rise}
use Rattle.ddt_register.specs.laws.Rising.{rise_parts, above}
use Rattle.ddt_check.specs.Rules.{share}
use Rattle.ddt_deploy.specs.Loopback.Moved.{locators_in}

-- ---- two lists, one behind the other

lists_both : (a b : List Locator) (l : Locator) → lists (a ++ b) l ≡ false → (lists a l ≡ false) × (lists b l ≡ false)
lists_both a b l e = or_parts (lists a l) (lists b l) (sym (list_any-append (λ m. is_same_locator m l) a b) ∙ e)

lists_neither : (a b : List Locator) (l : Locator) → lists a l ≡ false → lists b l ≡ false → lists (a ++ b) l ≡ false
lists_neither a b l e f = list_any-append (λ m. is_same_locator m l) a b ∙ rw (e, f) refl

pub distinct_parts : (a b : List Locator) → are_distinct (a ++ b) ≡ true
    → (are_distinct a ≡ true) × (are_distinct b ≡ true) × (share a b ≡ false)
distinct_parts [] b e = (refl, e, refl)
distinct_parts (x ∷ a) b e =
    let p = and_parts (not (lists (a ++ b) x)) (are_distinct (a ++ b)) e in
    let q = lists_both a b x (not-true (lists (a ++ b) x) p.0) in
    let rest = distinct_parts a b p.1 in
    (rw (q.0) rest.0, rest.1, rw (q.1) rest.2)

pub distinct_both : (a b : List Locator) → are_distinct a ≡ true → are_distinct b ≡ true → share a b ≡ false
    → are_distinct (a ++ b) ≡ true
distinct_both [] b e f s = f
distinct_both (x ∷ a) b e f s =
    let p = and_parts (not (lists a x)) (are_distinct a) e in
    let q = or_parts (lists b x) (share a b) s in
    rw (lists_neither a b x (not-true (lists a x) p.0) q.0) (distinct_both a b p.1 f q.1)

-- ---- the locators of groups

-- what is shared with none of some groups is shared with each of them, and the other way round
unshared_each : (a : List Locator) (b c : List Locator) → share a (b ++ c) ≡ false
    → (share a b ≡ false) × (share a c ≡ false)
unshared_each [] b c e = (refl, refl)
unshared_each (x ∷ a) b c e =
    let p = or_parts (lists (b ++ c) x) (share a (b ++ c)) e in
    let q = lists_both b c x p.0 in
    let rest = unshared_each a b c p.1 in
    (rw (q.0) rest.0, rw (q.1) rest.1)

unshared_both : (a : List Locator) (b c : List Locator) → share a b ≡ false → share a c ≡ false
    → share a (b ++ c) ≡ false
unshared_both [] b c e f = refl
unshared_both (x ∷ a) b c e f =
    let p = or_parts (lists b x) (share a b) e in
    let q = or_parts (lists c x) (share a c) f in
    rw (lists_neither b c x p.0 q.0) (unshared_both a b c p.1 q.1)

unshared_nil : (a : List Locator) → share a [] ≡ false
unshared_nil [] = refl
unshared_nil (x ∷ a) = unshared_nil a

unshared_at : (a : List Locator) (gs : List Group) (g : Group) → share a (locators_in gs) ≡ false → IsIn g gs
    → share a g.locators ≡ false
unshared_at a [] g e k = absurd k
unshared_at a (h ∷ gs) g e (inl same) = ap (λ (i : Group). share a i.locators) same
    ∙ (unshared_each a h.locators (locators_in gs) e).0
unshared_at a (h ∷ gs) g e (inr later) = unshared_at a gs g (unshared_each a h.locators (locators_in gs) e).1 later

unshared_all : (a : List Locator) (gs : List Group) → ((g : Group) → IsIn g gs → share a g.locators ≡ false)
    → share a (locators_in gs) ≡ false
unshared_all a [] h = unshared_nil a
unshared_all a (g ∷ gs) h = unshared_both a g.locators (locators_in gs) (h g (inl refl)) (unshared_all a gs
    (λ i k. h i (inr k)))

pub distinct_at : (gs : List Group) (g : Group) → are_distinct (locators_in gs) ≡ true → IsIn g gs
    → are_distinct g.locators ≡ true
distinct_at [] g e k = absurd k
distinct_at (h ∷ gs) g e (inl same) = ap (λ (i : Group). are_distinct i.locators) same
    ∙ (distinct_parts h.locators (locators_in gs) e).0
distinct_at (h ∷ gs) g e (inr later) = distinct_at gs g (distinct_parts h.locators (locators_in gs) e).1 later

abbrev row_of : Group → ℕ
row_of g = g.row

pub unshared_pair : (gs : List Group) (last : ℕ) (h g : Group) → rise last (map (λ (i : Group). i.row) gs) ≡ true
    → are_distinct (locators_in gs) ≡ true → IsIn h gs → IsIn g gs → h.row < g.row → share h.locators g.locators ≡ false
unshared_pair [] last h g up e j k lt = absurd j
unshared_pair (x ∷ gs) last h g up e (inl a) (inl b) lt =
    let p : h.row ≡ x.row = ap row_of a in let q : g.row ≡ x.row = ap row_of b in absurd (omega arith)
unshared_pair (x ∷ gs) last h g up e (inl a) (inr k) lt =
    ap (λ (i : Group). share i.locators g.locators) a
    ∙ unshared_at x.locators gs g (distinct_parts x.locators (locators_in gs) e).2 k
unshared_pair (x ∷ gs) last h g up e (inr j) (inl b) lt =
    let q : g.row ≡ x.row = ap row_of b in
    let r : x.row < h.row = above row_of gs x.row h (rise_parts last x.row (map row_of gs) up).1 j in
    absurd (omega arith)
unshared_pair (x ∷ gs) last h g up e (inr j) (inr k) lt =
    unshared_pair gs x.row h g (rise_parts last x.row (map row_of gs) up).1 (distinct_parts x.locators
    (locators_in gs) e).1 j k lt

pub distinct_all : (gs : List Group) (last : ℕ) → rise last (map (λ (i : Group). i.row) gs) ≡ true
    → ((g : Group) → IsIn g gs → are_distinct g.locators ≡ true)
    → ((h g : Group) → IsIn h gs → IsIn g gs → h.row < g.row → share h.locators g.locators ≡ false)
    → are_distinct (locators_in gs) ≡ true
distinct_all [] last up each pair = refl
distinct_all (x ∷ gs) last up each pair =
    let rest = (rise_parts last x.row (map row_of gs) up).1 in
    distinct_both x.locators (locators_in gs) (each x (inl refl))
    (distinct_all gs x.row rest (λ g k. each g (inr k)) (λ h g j k lt. pair h g (inr j) (inr k) lt))
    (unshared_all x.locators gs (λ g k. pair x g (inl refl) (inr k) (above row_of gs x.row g rest k)))

-- ---- places

again : (l : Locator) (ls : List Locator) (j : ℕ) → are_distinct (l ∷ ls) ≡ true → slice_get ls j ≡ Some l → ⊥
again l ls j e same =
    both_ways (lists ls l) (not-true (lists ls l) (and_parts (not (lists ls l)) (are_distinct ls) e).0)
    (in_any (λ m. is_same_locator m l) ls l (in_get ls j l same) (is_same_locator_self l))

-- what stands at two places is not the same
pub own_place : (ls : List Locator) → are_distinct ls ≡ true → (i j : ℕ) → i < length ls → j < length ls
    → slice_get ls i ≡ slice_get ls j → i ≡ j
own_place [] e i j lt mt same = absurd (omega arith)
own_place (l ∷ ls) e zero zero lt mt same = refl
own_place (l ∷ ls) e zero (suc j) lt mt same = absurd (again l ls j e (sym same))
own_place (l ∷ ls) e (suc i) zero lt mt same = absurd (again l ls i e same)
own_place (l ∷ ls) e (suc i) (suc j) lt mt same =
    ap suc (own_place ls (and_parts (not (lists ls l)) (are_distinct ls) e).1 i j (omega arith) (omega arith) same)
