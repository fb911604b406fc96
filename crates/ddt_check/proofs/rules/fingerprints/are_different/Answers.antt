use Rattle.ddt_check.proofs.FingerprintLemmas.{differ_from_increasing, increasing_from_differ}
use Rattle.ddt_check.proofs.rules.fingerprints.are_different.Goals as goal

pub returns : goal.returns
returns c =
    let xs = c.args.numbers.now in
    let ys = c.sort_unstable.new.self in
    let moved = c.sort_unstable.ensures.permutation in
    let sorted = c.sort_unstable.ensures.sorted in (
      λ e. differ_from_increasing xs ys moved (c.are_increasing.ensures.0 e),
      λ h. c.are_increasing.ensures.1 (increasing_from_differ xs ys moved sorted h),
    )
