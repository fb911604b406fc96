use Rattle.std.proofs.Common.{◌≡◌, ◌-◌, ℕ, List, Option, true, length, sym, subst, ◌∙◌, arith}
use Rattle.std.proofs.lemmas.Bool.{eqb-false, false≢true}
use Rattle.ddt_path.specs.Covers.{covers}
use Rattle.ddt_path.specs.laws.Cover.{covers_trans}
use Rattle.ddt_path.specs.laws.Member.{IsIn}
use Rattle.ddt_plan.specs.Differing.{is_within}
use Rattle.ddt_plan.proofs.SideLemmas.{empty_is}
use Rattle.ddt_plan.proofs.SliceLemmas.{covers_all}
use Rattle.ddt_plan.proofs.skip_unchanged.cover_of.Goals as goal

pub returns-then-is_empty : goal.returns-then-is_empty
returns-then-is_empty g c = (
  λ a k. absurd (subst (IsIn a) (empty_is c.args.items.now (sym c.is_empty.ensures ∙ c.if-is_empty.true)) k),
  λ p e. e,
)

pub returns-in-Some : goal.returns-in-Some
returns-in-Some g c =
    let path = g.T.Prefixed.path in
    let xs = c.args.items.now in
    let all = c.longest_common-all.result in
    let some = eqb-false (length xs) 0 (sym c.is_empty.ensures ∙ c.if-is_empty.false) in
    let low : covers all (path c.index-items-0.result) ≡ true =
    subst (λ (l : List ℕ). covers all l ≡ true) c.prefix.ensures c.longest_common-all.ensures.both.0 in
    let high : covers all (path c.index-items-items.result) ≡ true =
    subst (λ (l : List ℕ). covers all l ≡ true) c.prefix-2.ensures c.longest_common-all.ensures.both.1 in
    let each = covers_all path xs c.requires all c.index-items-0.result c.index-items-items.result (length xs - 1)
    (omega (arith, some)) (omega (arith, some)) c.index-items-0.is c.index-items-items.is all low high in
    let both = c.longest_common.ensures.both in (
      λ a k. covers_trans c.longest_common.result all (path a) both.1 (each a k),
      λ p e. covers_trans c.longest_common.result c.in-Some.known p both.0
          (subst (λ (o : Option (List ℕ)). is_within o p ≡ true) c.in-Some.is e),
    )

pub returns-in-None : goal.returns-in-None
returns-in-None g c =
    let path = g.T.Prefixed.path in
    let xs = c.args.items.now in
    let all = c.longest_common-all.result in
    let some = eqb-false (length xs) 0 (sym c.is_empty.ensures ∙ c.if-is_empty.false) in
    let low : covers all (path c.index-items-0.result) ≡ true =
    subst (λ (l : List ℕ). covers all l ≡ true) c.prefix.ensures c.longest_common-all.ensures.both.0 in
    let high : covers all (path c.index-items-items.result) ≡ true =
    subst (λ (l : List ℕ). covers all l ≡ true) c.prefix-2.ensures c.longest_common-all.ensures.both.1 in (
      covers_all path xs c.requires all c.index-items-0.result c.index-items-items.result (length xs - 1)
          (omega (arith, some)) (omega (arith, some)) c.index-items-0.is c.index-items-items.is all low high,
      λ p e. absurd (false≢true (subst (λ (o : Option (List ℕ)). is_within o p ≡ true) c.in-None.is e)),
    )
