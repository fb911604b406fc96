use Rattle.std.proofs.Common.{◌≡◌, Ok, drop, map, take, true}
use Rattle.ddt_text.specs.FirstFault.{xeid_in}
use Rattle.ddt_commands.specs.Commands.Lookup.{bad_identifier}
use Rattle.ddt_commands.proofs.Texts.{texts}
use Rattle.ddt_commands.proofs.resolver.identifiers_in.Given as goal

-- the words before this one are good, and their identifiers are kept while there is memory
abbrev pub invariant-loop-word : goal.invariant-loop-word
invariant-loop-word l = record {
  good : bad_identifier (texts l.words) ≡ bad_identifier (drop l.word-index (texts l.words));
  spelled : l.has_room ≡ true → map xeid_in (take l.word-index (texts l.words)) ≡ map Ok l.ids.items;
}
