-- What a list of warnings tells, with one more warning, and after all kinds.
use Rattle.std.proofs.Common.{◌≡◌, ℕ, zero, suc, ◌+◌, ◌<◌, Bool, true, false, ◌||◌, ◌==◌, List, [], ◌∷◌, ◌++◌, get_or, refl, sym, ap, ◌∙◌, arith, inl, inr}
use Rattle.std.specs.Prelude.{◌&&◌, nat_lt}
use Rattle.std.specs.List.{list_any}
use Rattle.std.proofs.lemmas.Bool.{cases_order, lt-ltb, le-ltb, eq-eqb, ne_eqb}
use Rattle.std.proofs.lemmas.List.Folds.{list_any-append}
use Rattle.ddt_review.specs.declared.warnings.kind.Kind.{Kind}
use Rattle.ddt_review.specs.declared.warnings.kind.Kind.TheVariants as kinds
use Rattle.ddt_review.specs.declared.warnings.warning.Warning.{Warning}
use Rattle.ddt_review.specs.Warnings.Names.{kind_number}
use Rattle.ddt_path.specs.declared.locator.Locator.{Locator}
use Rattle.ddt_register.specs.declared.zone.Zone.{Zone}
use Rattle.ddt_register.specs.declared.site.Site.{Site}
use Rattle.ddt_register.specs.declared.group.Group.{Group}
use Rattle.ddt_register.specs.declared.register.Register.{Register}
use Rattle.ddt_check.specs.Rules.{item_at}
use Rattle.ddt_review.specs.Warnings.Warnings.{group_has, site_has, zone_has, warns}
use Rattle.ddt_review.specs.Warnings.Findings.{kind_of, is_same_kind, tells}

-- ---- the kinds in their order

abbrev pub all_kinds : List Kind
all_kinds = kinds.UnreachableLocator ∷ kinds.UnreachableEtr ∷ kinds.RepeatedEtr ∷ kinds.EtrIsServer ∷ kinds.EtrIsResolver
    ∷ kinds.EtrInsideSite ∷ kinds.LocatorInsideEids ∷ kinds.GroupWithoutZone ∷ kinds.NodeZoneWithoutChild
    ∷ kinds.ZoneBetween ∷ kinds.ZoneOfStrangeGroup ∷ kinds.SiteInOtherRegion ∷ []

pub kind_at : (kind : Kind) (i : ℕ) (d : Kind) → kind_number kind ≡ i → get_or all_kinds i d ≡ kind
kind_at kinds.UnreachableLocator i d e = ap (λ (k : ℕ). get_or all_kinds k d) (sym e)
kind_at kinds.UnreachableEtr i d e = ap (λ (k : ℕ). get_or all_kinds k d) (sym e)
kind_at kinds.RepeatedEtr i d e = ap (λ (k : ℕ). get_or all_kinds k d) (sym e)
kind_at kinds.EtrIsServer i d e = ap (λ (k : ℕ). get_or all_kinds k d) (sym e)
kind_at kinds.EtrIsResolver i d e = ap (λ (k : ℕ). get_or all_kinds k d) (sym e)
kind_at kinds.EtrInsideSite i d e = ap (λ (k : ℕ). get_or all_kinds k d) (sym e)
kind_at kinds.LocatorInsideEids i d e = ap (λ (k : ℕ). get_or all_kinds k d) (sym e)
kind_at kinds.GroupWithoutZone i d e = ap (λ (k : ℕ). get_or all_kinds k d) (sym e)
kind_at kinds.NodeZoneWithoutChild i d e = ap (λ (k : ℕ). get_or all_kinds k d) (sym e)
kind_at kinds.ZoneBetween i d e = ap (λ (k : ℕ). get_or all_kinds k d) (sym e)
kind_at kinds.ZoneOfStrangeGroup i d e = ap (λ (k : ℕ). get_or all_kinds k d) (sym e)
kind_at kinds.SiteInOtherRegion i d e = ap (λ (k : ℕ). get_or all_kinds k d) (sym e)

pub number_at : (i : ℕ) (d : Kind) → i < 12 → kind_number (get_or all_kinds i d) ≡ i
number_at zero d lt = refl
number_at (suc zero) d lt = refl
number_at (suc (suc zero)) d lt = refl
number_at (suc (suc (suc zero))) d lt = refl
number_at (suc (suc (suc (suc zero)))) d lt = refl
number_at (suc (suc (suc (suc (suc zero))))) d lt = refl
number_at (suc (suc (suc (suc (suc (suc zero)))))) d lt = refl
number_at (suc (suc (suc (suc (suc (suc (suc zero))))))) d lt = refl
number_at (suc (suc (suc (suc (suc (suc (suc (suc zero)))))))) d lt = refl
number_at (suc (suc (suc (suc (suc (suc (suc (suc (suc zero))))))))) d lt = refl
number_at (suc (suc (suc (suc (suc (suc (suc (suc (suc (suc zero)))))))))) d lt = refl
number_at (suc (suc (suc (suc (suc (suc (suc (suc (suc (suc (suc zero))))))))))) d lt = refl
number_at (suc (suc (suc (suc (suc (suc (suc (suc (suc (suc (suc (suc i)))))))))))) d lt = absurd (omega arith)

pub below_all : (kind : Kind) → kind_number kind < 12
below_all kinds.UnreachableLocator = omega arith
below_all kinds.UnreachableEtr = omega arith
below_all kinds.RepeatedEtr = omega arith
below_all kinds.EtrIsServer = omega arith
below_all kinds.EtrIsResolver = omega arith
below_all kinds.EtrInsideSite = omega arith
below_all kinds.LocatorInsideEids = omega arith
below_all kinds.GroupWithoutZone = omega arith
below_all kinds.NodeZoneWithoutChild = omega arith
below_all kinds.ZoneBetween = omega arith
below_all kinds.ZoneOfStrangeGroup = omega arith
below_all kinds.SiteInOtherRegion = omega arith

-- ---- one more warning

or_false : (b : Bool) → (b || false) ≡ b
or_false true = refl
or_false false = refl

and_false : (b : Bool) → (b && false) ≡ false
and_false true = refl
and_false false = refl

and_true : (b : Bool) → (b && true) ≡ b
and_true true = refl
and_true false = refl

pub tells_more : (ws : List Warning) (w : Warning) (kind : Kind) (row : ℕ)
    → tells (ws ++ w ∷ []) kind row ≡ (tells ws kind row || (w.row == row && is_same_kind (kind_of w.finding) kind))
tells_more ws w kind row =
    let test = λ (v : Warning). v.row == row && is_same_kind (kind_of v.finding) kind in
    list_any-append test ws (w ∷ []) ∙ ap (λ (b : Bool). list_any test ws || b) (or_false (test w))

-- what was told of the kinds so far, and of the next one
abbrev pub so_far : Bool → Bool → Bool → ℕ → ℕ → Bool
so_far before here has n i = before || (here && (nat_lt n i && has))

idle : (before here has : Bool) (n i : ℕ) → nat_lt n (i + 1) ≡ nat_lt n i → so_far before here has n i ≡ so_far before here has n (i + 1)
idle before here has n i e = ap (λ (b : Bool). before || (here && (b && has))) (sym e)

pub told_kind : (before here has : Bool) (n i : ℕ) → (i ≡ n → has ≡ true)
    → (so_far before here has n i || (here && (i == n))) ≡ so_far before here has n (i + 1)
told_kind before here has n i found =
    elim (cases_order n i) [
      | inl same ↦
          let a : nat_lt n i ≡ false = le-ltb n i (omega arith) in
          let b : nat_lt n (i + 1) ≡ true = lt-ltb n (i + 1) (omega arith) in
          let c : (i == n) ≡ true = eq-eqb i n (sym same) in
          rw (a, b, c, found (sym same)) (go before here)
      | inr (inl lt) ↦
          let a : nat_lt n i ≡ true = lt-ltb n i lt in
          let b : nat_lt n (i + 1) ≡ true = lt-ltb n (i + 1) (omega arith) in
          let c : (i == n) ≡ false = ne_eqb i n (omega arith) in
          rw (a, b, c) (still before here has)
      | inr (inr gt) ↦
          let a : nat_lt n i ≡ false = le-ltb n i (omega arith) in
          let b : nat_lt n (i + 1) ≡ false = le-ltb n (i + 1) (omega arith) in
          let c : (i == n) ≡ false = ne_eqb i n (omega arith) in
          rw (a, b, c) (quiet before here)
    ]
  where
    go : (t h : Bool) → ((t || (h && false)) || (h && true)) ≡ (t || (h && true))
    go true h = refl
    go false true = refl
    go false false = refl

    still : (t h f : Bool) → ((t || (h && f)) || (h && false)) ≡ (t || (h && f))
    still true h f = refl
    still false true f = or_false f
    still false false f = refl

    quiet : (t h : Bool) → ((t || (h && false)) || (h && false)) ≡ (t || (h && false))
    quiet true h = refl
    quiet false true = refl
    quiet false false = refl

pub untold_kind : (before here has : Bool) (n i : ℕ) → (i ≡ n → has ≡ false)
    → so_far before here has n i ≡ so_far before here has n (i + 1)
untold_kind before here has n i none =
    elim (cases_order n i) [
      | inl same ↦
          let a : nat_lt n i ≡ false = le-ltb n i (omega arith) in
          let b : nat_lt n (i + 1) ≡ true = lt-ltb n (i + 1) (omega arith) in
          rw (a, b, none (sym same)) refl
      | inr (inl lt) ↦ idle before here has n i (lt-ltb n (i + 1) (omega arith) ∙ sym (lt-ltb n i lt))
      | inr (inr gt) ↦ idle before here has n i (le-ltb n (i + 1) (omega arith) ∙ sym (le-ltb n i (omega arith)))
    ]

-- the kind at a place, and what was found of it
kind_here : (kind : Kind) (i : ℕ) (d : Kind) → i ≡ kind_number kind → get_or all_kinds i d ≡ kind
kind_here kind i d e = kind_at kind i d (sym e)

pub told_now : (has : Kind → Bool) (before here : Bool) (i : ℕ) (d : Kind) → i < 12 → (ws : List Warning) (w : Warning)
    (kind : Kind) (row : ℕ) → tells ws kind row ≡ so_far before here (has kind) (kind_number kind) i
    → (w.row == row) ≡ here
    → (has (get_or all_kinds i d) ≡ true) × (kind_of w.finding ≡ get_or all_kinds i d)
    → tells (ws ++ w ∷ []) kind row ≡ so_far before here (has kind) (kind_number kind) (i + 1)
told_now has before here i d lt ws w kind row so_far_is own found =
    let n : kind_number (kind_of w.finding) ≡ i = ap kind_number found.1 ∙ number_at i d lt in
    tells_more ws w kind row
    ∙ ap (λ (b : Bool). b || (w.row == row && is_same_kind (kind_of w.finding) kind)) so_far_is
    ∙ ap (λ (b : Bool). so_far before here (has kind) (kind_number kind) i || (b && is_same_kind (kind_of w.finding) kind)) own
    ∙ ap (λ (m : ℕ). so_far before here (has kind) (kind_number kind) i || (here && (m == kind_number kind))) n
    ∙ told_kind before here (has kind) (kind_number kind) i (λ e. ap has (sym (kind_here kind i d e)) ∙ found.0)

pub untold_now : (has : Kind → Bool) (before here : Bool) (i : ℕ) (d : Kind) → i < 12 → (kind : Kind)
    → has (get_or all_kinds i d) ≡ false
    → so_far before here (has kind) (kind_number kind) i ≡ so_far before here (has kind) (kind_number kind) (i + 1)
untold_now has before here i d lt kind none =
    untold_kind before here (has kind) (kind_number kind) i (λ e. ap has (sym (kind_here kind i d e)) ∙ none)

pub told_none : (before here has : Bool) (n : ℕ) → before ≡ so_far before here has n 0
told_none before here has n =
    sym (or_false before) ∙ ap (λ (b : Bool). before || b) (sym (and_false here))
    ∙ ap (λ (b : Bool). before || (here && (b && has))) (sym (le-ltb n 0 (omega arith)))

pub told_all : (before here has : Bool) (kind : Kind) → so_far before here has (kind_number kind) 12 ≡ (before || (here && has))
told_all before here has kind =
    ap (λ (b : Bool). before || (here && (b && has))) (lt-ltb (kind_number kind) 12 (below_all kind))

-- ---- the three lists

pub warns_by_lists : (r q : Register) (resolvers known : List Locator) (groups : List Group) (sites : List Site) (zones : List Zone) → q ≡ r → known ≡ resolvers
    → groups ≡ r.groups → sites ≡ r.sites → zones ≡ r.zones → (kind : Kind) (row : ℕ)
    → (item_at (λ (g : Group). g.row) (group_has q kind) groups row
    || (item_at (λ (s : Site). s.row) (site_has q known kind) sites row || item_at (λ (z : Zone). z.row) (zone_has q kind) zones row))
    ≡ warns r resolvers kind row
warns_by_lists r q resolvers known groups sites zones same same_known gs ss zs kind row = rw (same, same_known, gs, ss, zs) refl

pub three : (a b c : Bool) → (((false || a) || b) || c) ≡ (a || (b || c))
three true b c = refl
three false true c = refl
three false false c = refl
