-- A mark at the zone above one: whether it marks a zone.
use Rattle.std.proofs.Common.{◌≡◌, ℕ, Bool, true, false, ◌||◌, cond, not, ◌+◌, ◌<◌, List, length, get_or, take, Option, Some, None, refl, sym, ap, ◌∙◌, subst}
use Rattle.std.specs.Prelude.{◌&&◌}
use Rattle.std.specs.Option.{option_map_or}
use Rattle.std.specs.Ordering.{nat_cmp, is_eq}
use Rattle.std.specs.Cmp.Lexicographic.{slice_cmp, texts_ties}
use Rattle.std.specs.List.{list_any}
use Rattle.std.proofs.lemmas.List.Folds.{list_any_more}
use Rattle.ddt_path.specs.Covers.{is_same_path}
use Rattle.ddt_path.specs.Names.{is_same_name}
use Rattle.ddt_path.specs.laws.Cover.{same_path, path_itself, same_path-flips}
use Rattle.ddt_path.specs.laws.Member.{IsIn, iff_same, found_in, found_passes, unfound}
use Rattle.ddt_register.specs.declared.zone.Zone.{Zone}
use Rattle.ddt_register.specs.declared.register.Register.{Register}
use Rattle.ddt_check.specs.Rules.{IsAccepted}
use Rattle.ddt_check.specs.Zones.{is_direct_child}
use Rattle.ddt_check.specs.laws.Child.{one_parent}
use Rattle.ddt_check.specs.laws.Kept.{one_zone}
use Rattle.ddt_review.specs.Warnings.Found.{is_marked, is_outside_above}
use Rattle.ddt_review.specs.Warnings.Warnings.{zone_above}

and_false : (b : Bool) → (b && false) ≡ false
and_false true = refl
and_false false = refl

and_flips : (b : Bool) → (b && true) ≡ (true && b)
and_flips true = refl
and_flips false = refl

-- one more key is in a set
pub inserted_now : (p q : List ℕ) (before : Bool)
    → cond (is_eq (slice_cmp nat_cmp q p)) true before ≡ (before || is_same_path p q)
inserted_now p q before =
    ap (λ (b : Bool). cond b true before) (sym (texts_ties q p) ∙ same_flips q p)
    ∙ go (is_same_path p q) before
  where
    go : (b t : Bool) → cond b true t ≡ (t || b)
    go true true = refl
    go true false = refl
    go false true = refl
    go false false = refl

    same_flips : (p q : List ℕ) → is_same_path p q ≡ is_same_path q p
    same_flips p q = iff_same (is_same_path p q) (is_same_path q p) (same_path-flips p q) (same_path-flips q p)

-- one more item, whose mark says whether it passes
pub marks_more : {A : Type 0} (test : A → Bool) (items : List A) (i : ℕ) (x : A) → i < length items → x ≡ get_or items i x
    → (before mark : Bool) → before ≡ list_any test (take i items) → mark ≡ test x
    → (before || mark) ≡ list_any test (take (i + 1) items)
marks_more test items i x lt is before mark so_far now =
    ap (λ (b : Bool). b || mark) so_far
    ∙ ap (λ (b : Bool). list_any test (take i items) || b) (now ∙ ap test is)
    ∙ sym (list_any_more test items i x lt)

module _ (r : Register) (accepted : IsAccepted r) (z x : Zone) (k : IsIn z r.zones) where
  is_above : Zone → Bool
  is_above p = is_direct_child r p x

  -- the zone above, if it is this one
  same_above : (p : Zone) → zone_above r x ≡ Some p → is_same_path z.prefix p.prefix ≡ is_direct_child r z x
  same_above p e =
      let j = found_in (λ (y : Zone). is_direct_child r y x) r.zones p e in
      let direct = found_passes (λ (y : Zone). is_direct_child r y x) r.zones p e in
      iff_same (is_same_path z.prefix p.prefix) (is_direct_child r z x)
      (λ same. subst (λ (y : Zone). is_direct_child r y x ≡ true)
      (sym (one_zone r accepted z p k j (same_path z.prefix p.prefix same))) direct)
      (λ own. path_itself z.prefix p.prefix (ap (λ (y : Zone). y.prefix) (one_parent r accepted z p x k j own direct)))

  no_above : zone_above r x ≡ None → is_direct_child r z x ≡ false
  no_above e = unfound (λ (y : Zone). is_direct_child r y x) r.zones z e k

  pub marks_parent : is_marked (zone_above r x) true z.prefix ≡ is_direct_child r z x
  marks_parent = go (zone_above r x) refl
    where
      go : (found : Option Zone) → zone_above r x ≡ found → is_marked found true z.prefix ≡ is_direct_child r z x
      go None e = sym (no_above e)
      go (Some p) e = same_above p e

  module _ (q : Zone) (above : zone_above r z ≡ Some q) where
    abbrev outside : Bool
    outside = not (is_same_name x.group q.group)

    pub marks_mixed : is_marked (zone_above r x) (option_map_or (is_outside_above r x) (zone_above r x) false) z.prefix
        ≡ (is_direct_child r z x && outside)
    marks_mixed = go (zone_above r x) refl
      where
        case : (p : Zone) (own same : Bool) → zone_above r x ≡ Some p → is_same_path z.prefix p.prefix ≡ same
            → is_direct_child r z x ≡ own → same ≡ own → (is_outside_above r x p && same) ≡ (own && outside)
        case p own false e same direct eq = and_false (is_outside_above r x p) ∙ ap (λ (b : Bool). b && outside) eq
        case p own true e same direct eq =
            let j = found_in (λ (y : Zone). is_direct_child r y x) r.zones p e in
            let one : z ≡ p = one_zone r accepted z p k j (same_path z.prefix p.prefix same) in
            let w : is_outside_above r x p ≡ outside =
            ap (λ (y : Zone). is_outside_above r x y) (sym one)
            ∙ ap (λ (o : Option Zone). option_map_or (λ (y : Zone). not (is_same_name x.group y.group)) o false) above in
            ap (λ (b : Bool). b && true) w ∙ and_flips outside ∙ ap (λ (b : Bool). b && outside) eq

        go : (found : Option Zone) → zone_above r x ≡ found
            → is_marked found (option_map_or (is_outside_above r x) found false) z.prefix ≡ (is_direct_child r z x && outside)
        go None e = ap (λ (b : Bool). b && outside) (sym (no_above e))
        go (Some p) e = case p (is_direct_child r z x) (is_same_path z.prefix p.prefix) e refl refl (same_above p e)
