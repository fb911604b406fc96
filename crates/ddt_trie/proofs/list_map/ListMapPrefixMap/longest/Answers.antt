use Rattle.std.proofs.Common.{None, Some, ap}
use Rattle.std.specs.Option.{option_copied}
use Rattle.ddt_path.specs.Path.{xeid_path}
use Rattle.ddt_trie.specs.laws.Match.{asked, match_is_longest, no_match_is_uncovered}
use Rattle.ddt_trie.proofs.list_map.ListMapPrefixMap.longest.Goals as goal

pub returns-in_err-prefix-clause-covered : goal.returns-in_err-prefix-clause-covered
returns-in_err-prefix-clause-covered g c =
    λ covered. absurd (no_match_is_uncovered (xeid_path c.args.x) _
    (asked (xeid_path c.args.x) _ _ _ _ None c.deref.ensures.value c.host.ensures.whole c.longest_match.ensures (ap option_copied c.in_err-prefix.was)) covered)

pub returns-clause-longest : goal.returns-clause-longest
returns-clause-longest g c =
    let found = c.in_ok-prefix.field-0.now in
    match_is_longest (xeid_path c.args.x) _ found
    (asked (xeid_path c.args.x) _ _ _ _ (Some found) c.deref.ensures.value c.host.ensures.whole c.longest_match.ensures (ap option_copied c.in_ok-prefix.was))
