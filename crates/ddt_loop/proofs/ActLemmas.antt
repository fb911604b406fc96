-- How the acts of a running resolver are put together.
use Rattle.std.proofs.Common.{◌≡◌, true, false, List, ℕ, [], ◌∷◌, Option, Err, refl, subst}
use Rattle.std.specs.Prelude.{IsTrue}
use Rattle.std.proofs.lemmas.Bool.{false≢true}
use Rattle.ddt_path.specs.Path.{xeid_path, is_path}
use Rattle.ddt_resolver.specs.declared.results.AskError.TheVariants as ask_error
use Rattle.ddt_resolver.specs.State.{moved}
use Rattle.ddt_resolver.specs.AskStep.{AskStep, AskWants, UnlessAskLacksMemory, OnMemory}
use Rattle.ddt_resolver.specs.Step.{asks}
use Rattle.ddt_sockets.specs.declared.wire_calls.Call.TheVariants.{Tried}
use Rattle.ddt_sockets.specs.Turns.{AreTried}
use Rattle.ddt_resolver.specs.declared.results.Outgoing.{Outgoing as Sending}
use Rattle.ddt_resolver.specs.Front.{in_buffer, reply_to_itr}
use Rattle.ddt_loop.specs.Acts.{running, sent_if, IsToldItr, Asks, refused, lacks_memory}

pub ask_refused : {me now x who s new d : _} (why : _) → IsTrue (is_path (xeid_path x))
    → UnlessAskLacksMemory (Err why) (AskStep (moved now s) x new (Err why)) → OnMemory (Err why) ((new ≡ moved now s) × AskWants (moved now s) x)
    → Asks me now x who (running s d) (Err why) [] (running new d)
ask_refused ask_error.TooMany id step memory = refused ask_error.TooMany (asks _ _ id step refl refl) refl refl refl
ask_refused ask_error.Exhausted id step memory = refused ask_error.Exhausted (asks _ _ id step refl refl) refl refl refl
ask_refused ask_error.Memory id step memory = lacks_memory memory.1 memory.0 refl refl refl

-- what a buffer holds for an ITR is tried
pub told_itr : (me o q there answer : _) (put bytes : List ℕ) → in_buffer q put there ≡ reply_to_itr o q → there ≡ true → bytes ≡ put
    → IsToldItr me o q (Tried me q.to q.port bytes answer ∷ [])
told_itr me o q true answer put bytes is holds same =
    subst (λ (d : Option Sending). AreTried me (sent_if d) (Tried me q.to q.port bytes answer ∷ [])) is ((refl, refl, refl, same), tt)
told_itr me o q false answer put bytes is holds same = absurd (false≢true holds)
