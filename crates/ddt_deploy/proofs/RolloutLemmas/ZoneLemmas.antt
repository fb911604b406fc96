-- One more zone in a set of prefixes.
use Rattle.std.proofs.Common.{◌≡◌, ℕ, Bool, true, false, ◌||◌, cond, ◌+◌, ◌<◌, List, length, get_or, take, refl, sym, ap, ◌∙◌}
use Rattle.std.specs.Ordering.{nat_cmp, is_eq}
use Rattle.std.specs.Cmp.Lexicographic.{slice_cmp, texts_ties}
use Rattle.std.specs.List.{list_any}
use Rattle.std.proofs.lemmas.List.Folds.{list_any_more}
use Rattle.ddt_path.specs.Covers.{is_same_path}
use Rattle.ddt_path.specs.laws.Cover.{same_path-flips}
use Rattle.ddt_path.specs.laws.Member.{iff_same}
use Rattle.ddt_config.specs.declared.authority.Authority.{Authority}

pub inserted_now : (p q : List ℕ) (before : Bool)
    → cond (is_eq (slice_cmp nat_cmp q p)) true before ≡ (before || is_same_path p q)
inserted_now p q before =
    ap (λ (b : Bool). cond b true before) (sym (texts_ties q p)
    ∙ iff_same (is_same_path q p) (is_same_path p q) (same_path-flips q p) (same_path-flips p q))
    ∙ go (is_same_path p q) before
  where
    go : (b t : Bool) → cond b true t ≡ (t || b)
    go true true = refl
    go true false = refl
    go false true = refl
    go false false = refl

pub zones_more : (p : List ℕ) (zones : List Authority) (i : ℕ) (a : Authority) → i < length zones → a ≡ get_or zones i a
    → (before : Bool) → before ≡ list_any (λ (b : Authority). is_same_path p b.prefix) (take i zones)
    → (before || is_same_path p a.prefix) ≡ list_any (λ (b : Authority). is_same_path p b.prefix) (take (i + 1) zones)
zones_more p zones i a lt is before so_far =
    let test : Authority → Bool = λ b. is_same_path p b.prefix in
    ap (λ (b : Bool). b || test a) so_far
    ∙ ap (λ (b : Bool). list_any test (take i zones) || b) (ap test is)
    ∙ sym (list_any_more test zones i a lt)
