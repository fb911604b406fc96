use Rattle.ddt_trie.specs.laws.Match.{longest_of_entries, no_longest_of_entries}
use Rattle.ddt_trie.proofs.laws.longest_by_entries.Goals as goal

pub returns-clause-found : goal.returns-clause-found
returns-clause-found g c = λ entries x p v longest. longest_of_entries x entries p v longest

pub returns-clause-none : goal.returns-clause-none
returns-clause-none g c = λ entries x none. no_longest_of_entries x entries none
