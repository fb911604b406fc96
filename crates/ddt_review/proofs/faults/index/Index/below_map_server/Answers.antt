use Rattle.std.proofs.Common.{◌≡◌, ◌<◌, ◌-◌, ℕ, length, take, None, Some, sym, ap, ◌∙◌, arith, inl, inr}
use Rattle.std.specs.List.{filter}
use Rattle.std.specs.Option.{option_map}
use Rattle.std.proofs.lemmas.Bool.{cond-false, cases_lt}
use Rattle.ddt_path.specs.Matching.{longest_match}
use Rattle.ddt_check.specs.Rules.{is_below_map_server}
use Rattle.ddt_review.specs.Faults.Told.{row_of_zone}
use Rattle.ddt_review.proofs.FaultsLemmas.MatchLemmas.{zone_prefix}
use Rattle.ddt_review.proofs.FaultsLemmas.AboveLemmas.{ms_zone, above_by_front, root_not_below}
use Rattle.ddt_review.proofs.FaultsLemmas.ToldLemmas.{told_above}
use Rattle.ddt_review.proofs.faults.index.Index.below_map_server.Goals as goal

pub returns-in_err-len : goal.returns-in_err-len
returns-in_err-len c = λ r index.
    let z = c.args.zone.now in
    let none : length z.prefix ≡ 0 = elim (cases_lt 0 c.len.result) [
      | inl lt ↦ absurd (c.in_err-len.ensures (omega arith))
      | inr le ↦ let same = c.len.ensures.digits in omega arith
    ] in
    c.from_residual.ensures ∙ sym (cond-false (is_below_map_server r z) _ None (root_not_below r z none))

pub returns-in_err-above : goal.returns-in_err-above
returns-in_err-above c = λ r index.
    let z = c.args.zone.now in
    let digits : c.len.result ≡ length z.prefix = c.len.ensures.digits in
    let some : 0 < length z.prefix = let le = c.in_ok-len.ensures.0 in omega arith in
    let less : c.in_ok-len.len ≡ length z.prefix - 1 = let e = c.in_ok-len.ensures.1 in omega arith in
    let at = above_by_front r z.prefix some
    ∙ ap (longest_match zone_prefix (filter ms_zone r.zones))
    (ap (λ (k : ℕ). take k z.prefix) (sym less) ∙ sym c.front.ensures) in
    c.from_residual-in_err-above.ensures
    ∙ told_above r z None
    (c.in_err-above.ensures (filter ms_zone r.zones) index.map_servers ∙ ap (option_map row_of_zone) (sym at))

pub returns : goal.returns
returns c = λ r index.
    let z = c.args.zone.now in
    let digits : c.len.result ≡ length z.prefix = c.len.ensures.digits in
    let some : 0 < length z.prefix = let le = c.in_ok-len.ensures.0 in omega arith in
    let less : c.in_ok-len.len ≡ length z.prefix - 1 = let e = c.in_ok-len.ensures.1 in omega arith in
    let at = above_by_front r z.prefix some
    ∙ ap (longest_match zone_prefix (filter ms_zone r.zones))
    (ap (λ (k : ℕ). take k z.prefix) (sym less) ∙ sym c.front.ensures) in
    c.fault_if.ensures
    ∙ told_above r z (Some c.in_ok-above.above)
    (c.in_ok-above.ensures (filter ms_zone r.zones) index.map_servers ∙ ap (option_map row_of_zone) (sym at))
