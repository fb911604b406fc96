use Rattle.std.proofs.lemmas.Bool.{false≢true}
use Rattle.ddt_trie.specs.Trie.{trie_content}
use Rattle.ddt_review.proofs.FaultsLemmas.MatchLemmas.{longest_is, none_is_longest}
use Rattle.ddt_review.proofs.faults.longest_zone.longest.Goals as goal

pub returns-in-Some : goal.returns-in-Some
returns-in-Some c = λ zones has.
    longest_is (trie_content c.args.first.now) zones has c.args.prefix c.in-Some.found.0 c.in-Some.found.1.now
    c.in-Some.ensures.longest

pub returns-in-None : goal.returns-in-None
returns-in-None c = λ zones has. none_is_longest (trie_content c.args.first.now) zones has c.args.prefix
    (λ covered. false≢true (c.in-None.ensures.covered covered))
