-- `lookup REGISTER XEID... [--me ADDRESS] [--seed N]`: lookups one after the other at moment 0, by one resolver over
-- the servers of the register (RFC 8111, section 7.3).
use Rattle.std.specs.Prelude.{ℕ, Bool, true, false, ◌≡◌, ◌≤◌, ◌&&◌, List, [], ◌∷◌, ◌++◌, codes, map, unwrap_or, Option, None, Some, Result, Ok, Err}
use Rattle.std.specs.List.{flat_map}
use Rattle.std.specs.Option.{option_or}
use Rattle.std.specs.FinMap.{len}
use Rattle.ddt_path.specs.declared.locator.Locator.{Locator}
use Rattle.ddt_path.specs.declared.locator.Locator.TheVariants.{V4}
use Rattle.ddt_path.specs.declared.xeid.Xeid.{Xeid}
use Rattle.ddt_path.specs.Path.{xeid_path}
use Rattle.ddt_text.specs.declared.fault.TextFault.{TextFault}
use Rattle.ddt_text.specs.FirstFault.{locator_in, number_in, xeid_in}
use Rattle.ddt_register.specs.declared.register.Register.{Register}
use Rattle.ddt_check.specs.Assignment.{assignment}
use Rattle.ddt_check.specs.Says.{says}
use Rattle.ddt_check.specs.Zones.{roots}
use Rattle.ddt_wire.specs.declared.fault.ReferralFault.{ReferralFault}
use Rattle.ddt_wire.specs.Referral.{Message, message_in, message_of}
use Rattle.ddt_resolver.specs.declared.results.Why.{Why}
use Rattle.ddt_resolver.specs.declared.results.Why.TheVariants.{NoReply, Loop, NotAuthoritative, Exhausted}
use Rattle.ddt_resolver.specs.State.{State, fresh, last_nonce, most_pending}
use Rattle.ddt_sim.specs.declared.lookup_result.Hop.{Hop}
use Rattle.ddt_sim.specs.declared.lookup_result.LookupError.{LookupError}
use Rattle.ddt_sim.specs.declared.lookup_result.LookupError.TheVariants.{GaveUp, TooMany, Memory}
use Rattle.ddt_sim.specs.Lookup.{Fails, HasOutcome}
use Rattle.ddt_lines.specs.Lines.{ended, hop_text, outcome_text}
use Rattle.ddt_commands.specs.CommandLine.Call.{Call, all_values, setting}
use Rattle.ddt_commands.specs.declared.refusal.bad_word.WordRefusal.{WordRefusal}
use Rattle.ddt_commands.specs.declared.refusal.bad_word.WordRefusal.TheVariants.{Address, Number}
use Rattle.ddt_commands.specs.declared.command_line.declaration.Declaration.{Declaration}
use Rattle.ddt_commands.specs.CommandLine.Line.{one, setting as optional, several, takes}
use Rattle.ddt_commands.specs.Over.{prints_over}
use Rattle.ddt_commands.specs.Ends.{Prints}
use Rattle.ddt_commands.specs.Commands.Assign.{RefusesOnlyMemory, identifier_refusal}

-- ---- what the words ask for

-- the words of the identifiers
abbrev pub xeid_words : Call → List (List ℕ)
xeid_words call = unwrap_or (all_values (codes "xeid") call) []

-- the refusal of the first word that is no identifier
abbrev pub bad_identifier : List (List ℕ) → Option WordRefusal
bad_identifier [] = None
bad_identifier (word ∷ words) = option_or (identifier_refusal (xeid_in word)) (bad_identifier words)

-- the resolver's own address: 127.0.0.53 where none is given
abbrev pub me_in : Option (List ℕ) → Result Locator TextFault
me_in None = Ok (V4 2130706485)
me_in (Some word) = locator_in word

-- the nonce of its first request: 1 where none is given, and at most 18446744073709551615
abbrev pub seed_in : Option (List ℕ) → Option ℕ
seed_in None = Some 1
seed_in (Some word) = number_in last_nonce word

-- The resolver's own address, as `--me` gives it, else 127.0.0.53; a fault where the word is no address.
abbrev pub me_of : Call → Result Locator TextFault
me_of call = me_in (setting (codes "me") call)

-- The nonce of the resolver's first request, as `--seed` gives it, else 1; none where the word is no number below 2^64.
abbrev pub seed_of : Call → Option ℕ
seed_of call = seed_in (setting (codes "seed") call)

-- A word that is no address is refused as `bad address`, whatever its fault. It is for `--me` and for the address of
-- `serve`.
abbrev pub address_refusal : Result Locator TextFault → Option WordRefusal
address_refusal (Ok me) = None
address_refusal (Err fault) = Some Address

-- A word that is no number, or one too great for its place, is refused as `bad number`. It is for seeds and turns.
abbrev pub number_refusal : Option ℕ → Option WordRefusal
number_refusal None = Some Number
number_refusal (Some n) = None

-- the first bad word: the identifiers from left to right, then the address, then the seed
abbrev pub bad_lookup : Call → Option WordRefusal
bad_lookup call =
    option_or (bad_identifier (xeid_words call))
    (option_or (address_refusal (me_of call)) (number_refusal (seed_of call)))

-- the good words of a call ask a resolver of this address and this seed for these identifiers
pub record CallsForLookups (call : Call) (ids : List Xeid) (me_ : Locator) (seed : ℕ) : Type 0 where
  pub identifiers : map xeid_in (xeid_words call) ≡ map Ok ids
  pub address : me_of call ≡ Ok me_
  pub first : seed_of call ≡ Some seed

-- ---- what is printed

-- the line of a hop: the server that was asked, and what the register says there
abbrev pub said_line : Register → Xeid → Hop → List ℕ
said_line r x hop = ended (hop_text hop.to (message_of 0 (says r hop.to (xeid_path x))))

-- the line of a hop as its reply spells it
abbrev pub read_line : Locator → Result Message ReferralFault → List ℕ
read_line to (Ok v) = ended (hop_text to v)
read_line to (Err fault) = []

-- The line of a hop, from the bytes of its reply: the server that was asked and what its Map-Referral says. It is empty
-- where the bytes are no Map-Referral.
abbrev pub replied_line : Hop → List ℕ
replied_line hop = read_line hop.to (message_in hop.reply)

-- the names of why a lookup gave up
abbrev pub why_text : Why → List ℕ
why_text NoReply = codes "NoReply"
why_text Loop = codes "Loop"
why_text NotAuthoritative = codes "NotAuthoritative"
why_text Exhausted = codes "Exhausted"

-- what is told of an error of a lookup; of want of memory nothing
abbrev pub end_text : LookupError → List ℕ
end_text (GaveUp why) = codes "gave-up " ++ why_text why
end_text TooMany = codes "refused TooMany"
end_text Memory = []

-- The lines of one lookup, and whether it has an outcome. `outcome`: a line for each hop, then that of what the
-- register assigns. `gave_up`: no nonce is left for its next request. `refused`: 1,024 lookups were pending before.
pub data IsLookupTold (r : Register) (now : ℕ) (x : Xeid) (before : State) (found : Bool) (lines : List ℕ)
    (after : State) : Type 0 where
  outcome : (hops : List Hop) → HasOutcome now x before (assignment r (xeid_path x)) hops after → found ≡ true
      → lines ≡ flat_map (said_line r x) hops ++ ended (outcome_text (assignment r (xeid_path x)))
      → IsLookupTold r now x before found lines after
  gave_up : Fails now x before (GaveUp Exhausted) after → after.next ≡ last_nonce → found ≡ false
      → lines ≡ ended (codes "gave-up Exhausted") → IsLookupTold r now x before found lines after
  refused : Fails now x before TooMany after → most_pending ≤ len before.pending → found ≡ false
      → lines ≡ ended (codes "refused TooMany") → IsLookupTold r now x before found lines after

-- The lines of the lookups of these identifiers, in order, from a resolver in the state `start`; they are complete
-- where each has an outcome.
pub data AreTold (r : Register) (now : ℕ) (start : State) : List Xeid → Bool → List ℕ → State → Type 0 where
  none : AreTold r now start [] true [] start
  more : {ids : List Xeid} {complete : Bool} {text : List ℕ} {before : State} (x : Xeid) (found : Bool)
      (lines : List ℕ) (after : State) → AreTold r now start ids complete text before
      → IsLookupTold r now x before found lines after
      → AreTold r now start (ids ++ x ∷ []) (complete && found) (text ++ lines) after

-- The same, whatever state the lookups leave the resolver in.
abbrev pub AreAllTold : Register → ℕ → State → List Xeid → Bool → List ℕ → Type 0
AreAllTold r now start ids complete text = (after : State) × AreTold r now start ids complete text after

-- the lines of all lookups, at moment 0, by a new resolver with the root locators of the register
pub record IsLookupText (complete : Bool) (call : Call) (r : Register) (text : List ℕ) : Type 0 where
  pub ids : List Xeid
  pub me_ : Locator
  pub seed : ℕ
  pub asks : CallsForLookups call ids me_ seed
  pub told : AreAllTold r 0 (fresh (roots r) me_ seed) ids complete text

-- what `lookup` takes
abbrev pub lookup_takes : Declaration
lookup_takes =
    takes (codes "lookup") (one (codes "register") ∷ several (codes "xeid") ∷ optional (codes "me")
    ∷ optional (codes "seed") ∷ [])

-- what `lookup` prints of a call
abbrev pub lookup_prints : {F : Type 0} → (List ℕ → Option F → Type 0) → (F → Option (List ℕ)) → Call → Prints
lookup_prints opens remaining call = prints_over opens remaining bad_lookup IsLookupText RefusesOnlyMemory call
