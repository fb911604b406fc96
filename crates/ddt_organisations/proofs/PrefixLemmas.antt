-- Zones by their prefixes: one more of them, and whether one is strictly above a prefix.
use Rattle.std.proofs.Common.{◌≡◌, ◌≢◌, ℕ, ◌+◌, ◌-◌, ◌<◌, ◌≤◌, Bool, true, false, cond, List, length, take, get_or, Option, Some, None, refl, sym, ap, ◌∙◌, arith, inl, inr}
use Rattle.std.specs.Prelude.{is_some, ◌||◌, IfSome}
use Rattle.std.specs.List.{list_any, filter}
use Rattle.std.specs.FinMap.{FinMap, get, insert, len, get-insert}
use Rattle.std.specs.Cmp.Lexicographic.{texts_ties, nat_list_cmp_total, nat_list_eq_equiv}
use Rattle.std.proofs.lemmas.Bool.{false≢true, false_from_ne_true, cases_lt}
use Rattle.std.proofs.lemmas.List.{length-take}
use Rattle.std.proofs.lemmas.List.Folds.{list_any_more}
use denote.Ref.{Bor}
use Rattle.ddt_path.specs.Covers.{covers, is_same_path, is_strictly_below}
use Rattle.ddt_path.specs.laws.Cover.{covers_self, covers_trans, front_covered, length-covered, same_path, path_itself}
use Rattle.ddt_path.specs.laws.Front.{front_covers, front_below, below_parts}
use Rattle.ddt_path.specs.laws.MapSize.{len_inserted}
use Rattle.ddt_path.specs.laws.Member.{none_of, any_in, in_any, iff_same}
use Rattle.ddt_register.specs.declared.zone.Zone.{Zone}
use Rattle.ddt_register.specs.declared.register.Register.{Register}
use Rattle.ddt_register.specs.laws.Count.{few_rows, filter_few}
use Rattle.ddt_register.specs.laws.Rising.{zones_rise}
use Rattle.ddt_trie.specs.PrefixMap.{path_cmp, IsCovered, IsLongest}
use Rattle.ddt_organisations.specs.Tree.{Organisation}
use Rattle.ddt_organisations.specs.Meets.{own_zones, is_delegated}
use Rattle.ddt_organisations.specs.Found.{HasPrefixes}

-- zones that a test keeps of a register fit a map
pub few_kept : (r : Register) (test : Zone → Bool) → length (filter test r.zones) < 1048576
few_kept r test =
    let kept = filter_few test r.zones in
    let rows = few_rows (λ (z : Zone). z.row) r.zones (zones_rise r) in
    omega arith

-- ---- one more zone

or_some : {V : Type 0} (b : Bool) (v : V) (o : Option V) → is_some (cond b (Some v) o) ≡ (is_some o || b)
or_some true v None = refl
or_some true v (Some w) = refl
or_some false v None = refl
or_some false v (Some w) = refl

module _ (zones : List Zone) (i : ℕ) (z : Zone) (lt : i < length zones) (is : z ≡ get_or zones i z)
    (old new : FinMap path_cmp ℕ) (inserted : new ≡ insert old z.prefix z.row) where
  pub prefixes_more : HasPrefixes (take i zones) old → HasPrefixes (take (i + 1) zones) new
  prefixes_more before p =
      ap (λ (m : FinMap path_cmp ℕ). is_some (get m p)) inserted
      ∙ ap is_some (get-insert nat_list_cmp_total old z.prefix z.row p)
      ∙ or_some _ z.row (get old p)
      ∙ ap (λ (b : Bool). is_some (get old p) || b) (sym (texts_ties p z.prefix) ∙ nat_list_eq_equiv.symm p z.prefix)
      ∙ ap (λ (b : Bool). b || is_same_path z.prefix p) (before p)
      ∙ ap (λ (y : Zone). list_any (λ (w : Zone). is_same_path w.prefix p) (take i zones) || is_same_path y.prefix p) is
      ∙ sym (list_any_more (λ (w : Zone). is_same_path w.prefix p) zones i z lt)

  pub few_more : len old ≤ i → len new ≤ i + 1
  few_more few =
      let same : len new ≡ len (insert old z.prefix z.row) = ap len inserted in
      let most : len (insert old z.prefix z.row) ≤ len old + 1 = len_inserted nat_list_cmp_total old z.prefix z.row in
      omega arith

-- ---- whether a zone is strictly above a prefix

abbrev pub is_above : List ℕ → Zone → Bool
is_above p z = is_strictly_below p z.prefix

pub none_above : (zones : List Zone) (p : List ℕ) → length p ≡ 0 → false ≡ list_any (is_above p) zones
none_above zones p none = sym (none_of (is_above p) zones (λ z k. false_from_ne_true (is_above p z) (λ below.
    let lt = (below_parts p z.prefix below).1 in
    absurd (omega arith))))

module _ (rows : FinMap path_cmp ℕ) (x : List ℕ) where
  covered_if : (found : Option (List ℕ × Bor ℕ)) → IfSome found (λ f. IsLongest rows x f.0 f.1.now)
      → is_some found ≡ true → IsCovered rows x
  covered_if None longest e = absurd (false≢true e)
  covered_if (Some f) longest e = (f.0, ap is_some longest.value, longest.covers_it)

module _ (zones : List Zone) (rows : FinMap path_cmp ℕ) (has : HasPrefixes zones rows) (p front : List ℕ)
    (some : length p ≢ 0) (is : front ≡ take (length p - 1) p) where
  len_front : length front ≡ length p - 1
  len_front = ap length is ∙ length-take (length p - 1) p ∙ omega arith

  front_in : covers front p ≡ true
  front_in = ap (λ (q : List ℕ). covers q p) is ∙ front_covered (length p - 1) p

  positive : 0 < length p
  positive = elim (cases_lt 0 (length p)) [ inl lt ↦ lt | inr le ↦ absurd (some (omega arith)) ]

  above_of : IsCovered rows front → list_any (is_above p) zones ≡ true
  above_of over =
      let f = any_in (λ (z : Zone). is_same_path z.prefix over.0) zones (sym (has over.0) ∙ over.1) in
      let same : f.0.prefix ≡ over.0 = same_path f.0.prefix over.0 f.2 in
      let c : covers f.0.prefix front ≡ true = ap (λ (q : List ℕ). covers q front) same ∙ over.2 in
      let short = length-covered f.0.prefix front c in
      let n = len_front in
      let pos = positive in
      in_any (is_above p) zones f.0 f.1
      (front_below f.0.prefix p p (covers_trans f.0.prefix front p c front_in) (covers_self p) (omega arith))

  over_of : list_any (is_above p) zones ≡ true → IsCovered rows front
  over_of above =
      let f = any_in (is_above p) zones above in
      let b = below_parts p f.0.prefix f.2 in
      let n = len_front in (
        f.0.prefix,
        has f.0.prefix
            ∙ in_any (λ (z : Zone). is_same_path z.prefix f.0.prefix) zones f.0 f.1
            (path_itself f.0.prefix f.0.prefix refl),
        front_covers f.0.prefix front p b.0 front_in (omega (arith, b.1)),
      )

  pub found_above : (found : Option (List ℕ × Bor ℕ)) → IfSome found (λ f. IsLongest rows front f.0 f.1.now)
      → (IsCovered rows front → is_some found ≡ true) → is_some found ≡ list_any (is_above p) zones
  found_above found longest covered = iff_same (is_some found) (list_any (is_above p) zones)
      (λ e. above_of (covered_if rows front found longest e)) (λ e. covered (over_of e))

-- ---- a zone that is delegated

pub none_run : (o : Organisation) (z : Zone) → o.runs z.group ≡ true → false ≡ is_delegated o z
none_run o z e = rw e refl

pub below_own : (o : Organisation) (z : Zone) (b : Bool) → o.runs z.group ≡ false
    → b ≡ list_any (is_above z.prefix) (own_zones o) → b ≡ is_delegated o z
below_own o z b e is = is ∙ rw e refl
