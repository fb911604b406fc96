use Rattle.std.proofs.Common.{◌≡◌, min, take}
use Rattle.std.specs.List.{sum_by}
use Rattle.ddt_config.specs.Digest.Counted.{most_count, child_count, site_count}
use Rattle.ddt_config.proofs.digest.counts.counts_of.Given as goal

abbrev pub invariant-loop-authority : goal.invariant-loop-authority
invariant-loop-authority l =
    (l.children ≡ min (sum_by (λ a. child_count a.content) (take l.authority-index l.authorities)) most_count)
    × (l.sites ≡ min (sum_by (λ a. site_count a.content) (take l.authority-index l.authorities)) most_count)
