-- The waits of lost zones, as a loop puts them by the zones' prefixes, and how many fronts of a prefix are lost.
use Rattle.std.proofs.Common.{◌≡◌, ℕ, zero, suc, ◌+◌, ◌<◌, Bool, true, false, cond, ◌||◌, List, [], ◌∷◌, ◌++◌, length, map, take, get_or, find, Option, Some, None, refl, sym, ap, ap₂, ◌∙◌, arith}
use Rattle.std.specs.Prelude.{unwrap_or, is_some, if◌then◌else◌}
use Rattle.std.specs.List.{filter, list_any}
use Rattle.std.specs.Option.{option_map}
use Rattle.std.specs.Ordering.{nat_cmp}
use Rattle.std.specs.Cmp.Lexicographic.{slice_cmp}
use Rattle.std.specs.BTreeMap.{BTreeMap, get}
use Rattle.std.proofs.lemmas.List.{take_more, length-map}
use Rattle.std.proofs.lemmas.List.Folds.{list_any_more}
use Rattle.ddt_path.specs.declared.record.Role.{Role}
use Rattle.ddt_path.specs.Covers.{is_same_path}
use Rattle.ddt_path.specs.laws.Cover.{same_path}
use Rattle.ddt_register.specs.declared.zone.Zone.{Zone}
use Rattle.ddt_register.specs.declared.register.Register.{Register}
use Rattle.ddt_plan.specs.declared.items.ServingGroup.{ServingGroup}
use Rattle.ddt_plan.specs.declared.pairs_by_key.Pair.{Pair}
use Rattle.ddt_plan.specs.Items.{serving_group_at}
use Rattle.ddt_plan.specs.Tables.{AreServingGroups, no_values}
use Rattle.ddt_check.specs.Zones.{is_ms}
use Rattle.ddt_deploy.specs.Rollout.Between.{Waits}
use Rattle.ddt_deploy.specs.Rollout.Waits.{lost_kind, lost_at, lost_of, lost_in, fronts, count_of, waits_at, put_if, AreWaits}

-- ---- how many are lost

pub one_more : (test : List ℕ → Bool) (xs : List (List ℕ)) (x : List ℕ)
    → length (filter test (xs ++ x ∷ [])) ≡ length (filter test xs) + (if test x then 1 else 0)
one_more test [] x = last (test x)
  where
    last : (b : Bool) → length (cond b (x ∷ []) []) ≡ 0 + (if b then 1 else 0)
    last true = refl
    last false = refl
one_more test (y ∷ ys) x = next (test y) (one_more test ys x)
  where
    next : (b : Bool) → length (filter test (ys ++ x ∷ [])) ≡ length (filter test ys) + (if test x then 1 else 0)
        → length (cond b (y ∷ filter test (ys ++ x ∷ [])) (filter test (ys ++ x ∷ [])))
        ≡ length (cond b (y ∷ filter test ys) (filter test ys)) + (if test x then 1 else 0)
    next true rest = omega (arith, rest)
    next false rest = rest

length_fronts : (p : List ℕ) → length (fronts p) ≡ length p + 1
length_fronts [] = refl
length_fronts (d ∷ ds) =
    let same = length-map (fronts ds) (λ (q : List ℕ). d ∷ q) in
    omega (arith, same, length_fronts ds)

mapped_at : (d : ℕ) (qs : List (List ℕ)) (i : ℕ) (x : List ℕ) → i < length qs → (q : List ℕ) → q ≡ get_or qs i q
    → d ∷ q ≡ get_or (map (λ (r : List ℕ). d ∷ r) qs) i x
mapped_at d [] i x lt q is = absurd (omega arith)
mapped_at d (r ∷ rs) zero x lt q is = ap (λ (s : List ℕ). d ∷ s) is
mapped_at d (r ∷ rs) (suc i) x lt q is = mapped_at d rs i x (omega arith) q is

front_at : (p : List ℕ) (i : ℕ) → i < length (fronts p) → (x : List ℕ) → take i p ≡ get_or (fronts p) i x
front_at [] zero lt x = refl
front_at [] (suc i) lt x = absurd (omega arith)
front_at (d ∷ ds) zero lt x = refl
front_at (d ∷ ds) (suc i) lt x =
    let same = length-map (fronts ds) (λ (q : List ℕ). d ∷ q) in
    let within : i < length (fronts ds) = omega (arith, same) in
    mapped_at d (fronts ds) i x within (take i ds) (front_at ds i within (take i ds))

pub front_more : (test : List ℕ → Bool) (p : List ℕ) (i : ℕ) → i < length p + 1
    → length (filter test (take (i + 1) (fronts p)))
    ≡ length (filter test (take i (fronts p))) + (if test (take i p) then 1 else 0)
front_more test p i lt =
    let within : i < length (fronts p) = omega (arith, length_fronts p) in
    ap (λ (qs : List (List ℕ)). length (filter test qs))
    (take_more (fronts p) i (take i p) within
    ∙ ap (λ (q : List ℕ). take i (fronts p) ++ q ∷ []) (sym (front_at p i within (take i p))))
    ∙ one_more test (take i (fronts p)) (take i p)

take_length : (qs : List (List ℕ)) → take (length qs) qs ≡ qs
take_length [] = refl
take_length (q ∷ qs) = ap (λ (rest : List (List ℕ)). q ∷ rest) (take_length qs)

pub all_fronts : (test : List ℕ → Bool) (p : List ℕ) (i : ℕ) → i ≡ length p + 1
    → length (filter test (take i (fronts p))) ≡ length (filter test (fronts p))
all_fronts test p i e =
    ap (λ (qs : List (List ℕ)). length (filter test qs))
    (ap (λ (n : ℕ). take n (fronts p)) (e ∙ sym (length_fronts p)) ∙ take_length (fronts p))

-- ---- the waits by what is kept, and by the registers

filter_agrees : {A : Type 0} (f g : A → Bool) → ((x : A) → f x ≡ g x) → (xs : List A) → filter f xs ≡ filter g xs
filter_agrees f g h [] = refl
filter_agrees f g h (x ∷ xs) = ap₂ (λ (b : Bool) (ys : List _). cond b (x ∷ ys) ys) (h x) (filter_agrees f g h xs)

pub waits_agree : (f g : List ℕ → Option Role) → ((q : List ℕ) → f q ≡ g q) → (p : List ℕ)
    → waits_at f p ≡ waits_at g p
waits_agree f g h p =
    ap (option_map (count_of f p)) (h p) ∙ counted (g p)
  where
    counted : (o : Option Role) → option_map (count_of f p) o ≡ option_map (count_of g p) o
    counted None = refl
    counted (Some kind) = ap (λ (xs : List (List ℕ)). Some (length xs + (if is_ms kind then 1 else 0)))
        (filter_agrees (λ q. is_some (f q)) (λ q. is_some (g q)) (λ q. ap is_some (h q)) (fronts p))

lost_by_both : (o : Option (Pair ServingGroup))
    → lost_of o ≡ lost_kind (unwrap_or o no_values).before (unwrap_or o no_values).after
lost_by_both None = refl
lost_by_both (Some pair) = refl

pub lost_is : (r s : Register) (groups : BTreeMap (List ℕ) (Pair ServingGroup)) → AreServingGroups r s groups
    → (p : List ℕ) → lost_in groups p ≡ lost_at r s p
lost_is r s groups are p =
    lost_by_both (get (slice_cmp nat_cmp) groups p)
    ∙ ap (λ (pair : Pair ServingGroup). lost_kind pair.before pair.after) (are p)

-- ---- a loop's step

-- what is kept under a prefix, once the zones of some rows were put
abbrev pub kept_at : (List ℕ → Option Role) → List Zone → List ℕ → Option ℕ
kept_at lost zones p = cond (list_any (λ (z : Zone). is_same_path z.prefix p) zones) (waits_at lost p) None

here_or_not : (w v : Option ℕ) (t b : Bool) → (b ≡ true → v ≡ w)
    → put_if v b (cond t w None) ≡ cond (t || b) w None
here_or_not w v t true is = go w v t (is refl)
  where
    go : (w v : Option ℕ) (t : Bool) → v ≡ w → put_if v true (cond t w None) ≡ cond (t || true) w None
    go None v true e = ap (λ (o : Option ℕ). put_if o true None) e
    go None v false e = ap (λ (o : Option ℕ). put_if o true None) e
    go (Some n) v true e = ap (λ (o : Option ℕ). put_if o true (Some n)) e
    go (Some n) v false e = ap (λ (o : Option ℕ). put_if o true None) e
here_or_not w None true false is = refl
here_or_not w None false false is = refl
here_or_not w (Some n) true false is = refl
here_or_not w (Some n) false false is = refl

pub kept_more : (lost : List ℕ → Option Role) (zones : List Zone) (i : ℕ) (z : Zone) → i < length zones
    → z ≡ get_or zones i z → (p : List ℕ) (old : Option ℕ) → old ≡ kept_at lost (take i zones) p
    → put_if (waits_at lost z.prefix) (is_same_path z.prefix p) old ≡ kept_at lost (take (i + 1) zones) p
kept_more lost zones i z lt is p old before =
    let test : Zone → Bool = λ y. is_same_path y.prefix p in
    ap (put_if (waits_at lost z.prefix) (test z)) before
    ∙ here_or_not (waits_at lost p) (waits_at lost z.prefix) (list_any test (take i zones)) (test z)
    (λ e. ap (waits_at lost) (same_path z.prefix p e))
    ∙ ap (λ (b : Bool). cond (list_any test (take i zones) || b) (waits_at lost p) None) (ap test is)
    ∙ ap (λ (b : Bool). cond b (waits_at lost p) None) (sym (list_any_more test zones i z lt))

-- ---- at the end

not_found : (test : Zone → Bool) (zones : List Zone) → list_any test zones ≡ false → find test zones ≡ None
not_found test [] e = refl
not_found test (z ∷ zs) e = go (test z) (not_found test zs) e
  where
    go : (b : Bool) → (list_any test zs ≡ false → find test zs ≡ None) → (b || list_any test zs) ≡ false
        → cond b (Some z) (find test zs) ≡ None
    go true rest e = absurd cc
    go false rest e = rest e

pub are_waits : (r s : Register) (groups : BTreeMap (List ℕ) (Pair ServingGroup)) → AreServingGroups r s groups
    → (kept : Waits) → ((p : List ℕ) → get (slice_cmp nat_cmp) kept p ≡ kept_at (lost_in groups) r.zones p)
    → AreWaits r s kept
are_waits r s groups are kept all p =
    all p ∙ ap (λ (w : Option ℕ). cond (list_any test r.zones) w None)
    (waits_agree (lost_in groups) (lost_at r s) (lost_is r s groups are) p)
    ∙ go (list_any test r.zones) refl
  where
    test : Zone → Bool
    test z = is_same_path z.prefix p

    group : Zone → ServingGroup
    group z = record { kind = z.kind; group = z.group }

    none : list_any test r.zones ≡ false → waits_at (lost_at r s) p ≡ None
    none e = ap (λ (o : Option Zone). option_map (count_of (lost_at r s) p)
        (lost_kind (option_map group o) (serving_group_at s p))) (not_found test r.zones e)

    go : (b : Bool) → list_any test r.zones ≡ b → cond b (waits_at (lost_at r s) p) None ≡ waits_at (lost_at r s) p
    go true e = refl
    go false e = sym (none e)
