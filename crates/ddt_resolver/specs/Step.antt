-- Any step of a resolver, from a state whose time has been moved.
use Rattle.std.specs.Prelude.{ℕ, ◌≡◌, IsTrue, List, Result, Ok, Err}
use Rattle.ddt_path.specs.declared.locator.Locator.{Locator}
use Rattle.ddt_path.specs.declared.xeid.Xeid.{Xeid}
use Rattle.ddt_path.specs.Path.{xeid_path, is_path}
use Rattle.ddt_resolver.specs.declared.results.Asked.{Asked}
use Rattle.ddt_resolver.specs.declared.results.Asked.TheVariants as asked
use Rattle.ddt_resolver.specs.declared.results.AskError.{AskError}
use Rattle.ddt_resolver.specs.declared.results.Heard.{Heard}
use Rattle.ddt_resolver.specs.declared.results.Heard.TheVariants as heard
use Rattle.ddt_resolver.specs.declared.results.Ticked.{Ticked}
use Rattle.ddt_resolver.specs.declared.results.Ticked.TheVariants as ticked
use Rattle.ddt_resolver.specs.declared.step.Input.{Input}
use Rattle.ddt_resolver.specs.declared.step.Input.TheVariants as input
use Rattle.ddt_resolver.specs.declared.step.Reply.{Reply}
use Rattle.ddt_resolver.specs.declared.step.Reply.TheVariants.{ToAsk, ToDatagram, ToTick}
use Rattle.ddt_resolver.specs.declared.step.Progress.{Progress}
use Rattle.ddt_resolver.specs.declared.step.Progress.TheVariants.{Stays, Sends, Ends}
use Rattle.ddt_resolver.specs.State.{State}
use Rattle.ddt_resolver.specs.AskStep.{AskStep, AskWants}
use Rattle.ddt_resolver.specs.Act.{HearStep, HearWants}
use Rattle.ddt_resolver.specs.TickStep.{TickStep, TickWants}

-- what a resolver is called for
pub data ResolverCall : Type 0 where
  Ask : Xeid → ResolverCall
  Hear : Locator → List ℕ → ResolverCall
  Tick : ResolverCall

-- an input as what it asks for, with the bytes themselves
abbrev pub call_of : Input → ResolverCall
call_of (input.Ask x) = Ask x
call_of (input.Datagram source bytes) = Hear source bytes.now
call_of input.Tick = Tick

-- what a reply makes of the pending lookups: they stay, or one sends a request or ends
abbrev pub progress_of : Reply → Progress
progress_of (ToAsk (Ok (asked.Sent t d))) = Sends t d
progress_of (ToAsk (Ok (asked.Answer o))) = Stays
progress_of (ToAsk (Err why)) = Stays
progress_of (ToDatagram (heard.Ignored why)) = Stays
progress_of (ToDatagram (heard.Followed t d)) = Sends t d
progress_of (ToDatagram (heard.Answer t o)) = Ends t (Ok o)
progress_of (ToDatagram (heard.GaveUp t why)) = Ends t (Err why)
progress_of (ToTick ticked.Nothing) = Stays
progress_of (ToTick (ticked.Sent t d)) = Sends t d
progress_of (ToTick (ticked.Answer t o)) = Ends t (Ok o)
progress_of (ToTick (ticked.GaveUp t why)) = Ends t (Err why)

-- an ask of an identifier, a datagram from a source, or a tick
pub data Step (s : State) (call : ResolverCall) (new : State) (reply : Reply) : Type 0 where
  asks : (x : Xeid) (r : Result Asked AskError) → IsTrue (is_path (xeid_path x)) → AskStep s x new r
      → call ≡ Ask x → reply ≡ ToAsk r → Step s call new reply
  hears : (source : Locator) (bytes : List ℕ) (heard : Heard) → HearStep s source bytes new heard
      → call ≡ Hear source bytes → reply ≡ ToDatagram heard → Step s call new reply
  ticks : (ticked : Ticked) → TickStep s new ticked → call ≡ Tick → reply ≡ ToTick ticked → Step s call new reply

-- the step would send a request or save a record: only there can memory be wanted
abbrev pub Wants : State → ResolverCall → Type 0
Wants s (Ask x) = AskWants s x
Wants s (Hear source bytes) = HearWants s source bytes
Wants s Tick = TickWants s
