-- Waits and tries so far.
use Rattle.std.proofs.Common.{◌≡◌, ℕ, ◌+◌, ◌-◌, ◌<◌, ◌≤◌, true, false, List, [], ◌∷◌, ◌++◌, length, refl, sym, ap, subst, ◌∙◌}
use Rattle.std.specs.Prelude.{Option, Some, None, Result, Ok, Err, is_some, is_err}
use Rattle.std.specs.Option.{option_map}
use Rattle.std.specs.List.{All}
use Rattle.std.proofs.lemmas.List.{length_push}
use Rattle.std.proofs.lemmas.List.Elements.{All-nil, All-push}
use Rattle.ddt_ecm.specs.UdpHeader.{control_port}
use Rattle.ddt_path.specs.declared.locator.Locator.{Locator}
use Rattle.ddt_sockets.specs.declared.wire_calls.Call.{Call}
use Rattle.ddt_sockets.specs.declared.wire_calls.Call.TheVariants.{Tried}
use Rattle.ddt_sockets.specs.declared.wire_calls.NetFault.{NetFault}
use Rattle.ddt_sockets.specs.declared.wire_calls.Packet.{Packet}
use Rattle.ddt_sockets.specs.Calls.{RecordsCalls, packet_bytes, received}
use Rattle.ddt_sockets.specs.Turns.{most_bytes}
use Rattle.ddt_asking.specs.declared.probe_options.ProbeOptions.{ProbeOptions}
use Rattle.ddt_asking.specs.declared.reply_match.AwaitedReply.{AwaitedReply}
use Rattle.ddt_asking.specs.declared.await_reply.Wait.{Wait}
use Rattle.ddt_asking.specs.Replies.{reply_in}
use Rattle.ddt_asking.specs.Steps.{WireStep, step_of, HasDone}
use Rattle.ddt_asking.specs.Waits.{IsVain, IsWait, replied, over, used_up, most_polls}
use Rattle.ddt_asking.specs.Tries.{wait_for, IsTry, sent, lost, HasTried, no_try, one_try, AreTries, answered, unanswered}
use Rattle.ddt_asking.proofs.StepLemmas.{nothing_done, one_done, both_done}

-- ---- a wait

-- so many polls so far, all in vain
pub record IsWaiting (told telling : Option (List Call)) (read reading : Option (List ℕ)) (w : Wait) (count : ℕ) :
    Type 0 where
  pub vain : List WireStep
  pub done : HasDone told telling read reading vain
  pub are_vain : All (IsVain w) vain
  pub count_is : length vain ≡ count

pub no_poll_yet : (told : Option (List Call)) (read : Option (List ℕ)) (w : Wait) → IsWaiting told told read read w 0
no_poll_yet told read w =
    record { vain = []; done = nothing_done told read; are_vain = All-nil (IsVain w); count_is = refl }

pub one_more_poll : (told midway telling : Option (List Call)) (read between reading : Option (List ℕ)) (w : Wait)
    (count : ℕ) (s : WireStep) → IsWaiting told midway read between w count
    → HasDone midway telling between reading (s ∷ []) → IsVain w s
    → IsWaiting told telling read reading w (count + 1)
one_more_poll told midway telling read between reading w count s so_far done vain = record {
  vain = so_far.vain ++ s ∷ [];
  done = both_done told midway telling read between reading so_far.vain (s ∷ []) so_far.done done;
  are_vain = All-push (IsVain w) so_far.vain s so_far.are_vain vain;
  count_is = length_push so_far.vain s ∙ ap (λ n. n + 1) so_far.count_is;
}

-- the step of a poll of a socket with this answer
abbrev pub polled : Locator → Result (Option Packet) NetFault → List ℕ → ℕ → WireStep
polled at answer buffer now = step_of (received at answer buffer) now

-- a reply that isn't there is none
none_mapped : (f : ℕ → List ℕ) (reply : Option ℕ) → is_some reply ≡ false → option_map f reply ≡ None
none_mapped f None absent = refl
none_mapped f (Some n) absent = absurd (cc)

pub polled_in_vain : (w : Wait) (answer : Result (Option Packet) NetFault) (buffer : List ℕ) (now : ℕ)
    (f : ℕ → List ℕ) (reply : Option ℕ) → length buffer ≡ most_bytes → now - w.since < w.millis
    → option_map f reply ≡ reply_in w.awaited answer (packet_bytes answer buffer) → is_some reply ≡ false
    → IsVain w (polled w.at answer buffer now)
polled_in_vain w answer buffer now f reply room early is absent =
    record { is_poll = (refl, room); in_time = early; no_reply = sym is ∙ none_mapped f reply absent }

module _ (told midway telling : Option (List Call)) (read between reading : Option (List ℕ)) (w : Wait) (count : ℕ)
    (answer : Result (Option Packet) NetFault) (buffer : List ℕ) (now : ℕ)
    (so_far : IsWaiting told midway read between w count)
    (tells : RecordsCalls midway (received w.at answer buffer ∷ []) telling) (reads : RecordsCalls between (now ∷ []) reading)
    (room : length buffer ≡ most_bytes) where
  this_done : HasDone midway telling between reading (polled w.at answer buffer now ∷ [])
  this_done = one_done midway telling between reading (received w.at answer buffer) now tells reads

  all_done : HasDone told telling read reading (so_far.vain ++ polled w.at answer buffer now ∷ [])
  all_done =
      both_done told midway telling read between reading so_far.vain (polled w.at answer buffer now ∷ []) so_far.done
      this_done

  pub wait_is_over : w.millis ≤ now - w.since
      → (steps : List WireStep) × HasDone told telling read reading steps × IsWait w steps None
  wait_is_over late = (
    so_far.vain ++ polled w.at answer buffer now ∷ [],
    all_done,
    over so_far.vain (polled w.at answer buffer now) so_far.are_vain (refl, room) late,
  )

  waits_on : (f : ℕ → List ℕ) (reply : Option ℕ) → now - w.since < w.millis
      → option_map f reply ≡ reply_in w.awaited answer (packet_bytes answer buffer) → is_some reply ≡ true
      → IsWait w (so_far.vain ++ polled w.at answer buffer now ∷ []) (option_map f reply)
  waits_on f None early is there = absurd (cc)
  waits_on f (Some n) early is there =
      replied so_far.vain (polled w.at answer buffer now) (f n) so_far.are_vain (refl, room) early (sym is)

  pub wait_is_replied : (f : ℕ → List ℕ) (reply : Option ℕ) → now - w.since < w.millis
      → option_map f reply ≡ reply_in w.awaited answer (packet_bytes answer buffer) → is_some reply ≡ true
      → (steps : List WireStep) × HasDone told telling read reading steps × IsWait w steps (option_map f reply)
  wait_is_replied f reply early is there = (
    so_far.vain ++ polled w.at answer buffer now ∷ [],
    all_done,
    waits_on f reply early is there,
  )

  pub wait_goes_on : (f : ℕ → List ℕ) (reply : Option ℕ) → now - w.since < w.millis
      → option_map f reply ≡ reply_in w.awaited answer (packet_bytes answer buffer) → is_some reply ≡ false
      → IsWaiting told telling read reading w (count + 1)
  wait_goes_on f reply early is absent =
      one_more_poll told midway telling read between reading w count (polled w.at answer buffer now) so_far this_done
      (polled_in_vain w answer buffer now f reply room early is absent)

pub wait_is_used_up : (told telling : Option (List Call)) (read reading : Option (List ℕ)) (w : Wait) (count : ℕ)
    → IsWaiting told telling read reading w count → count ≡ most_polls
    → (steps : List WireStep) × HasDone told telling read reading steps × IsWait w steps None
wait_is_used_up told telling read reading w count so_far all =
    (so_far.vain, so_far.done, used_up so_far.vain so_far.are_vain (so_far.count_is ∙ all))

-- ---- a try

module _ (told midway : Option (List Call)) (read between : Option (List ℕ)) (m : ProbeOptions) (request : List ℕ)
    (a : AwaitedReply) (now : ℕ) (reads : RecordsCalls read (now ∷ []) between) where
  pub try_is_lost : (answer : Result (Unit {0}) NetFault) → is_err answer ≡ true
      → RecordsCalls told (Tried m.me a.from control_port request answer ∷ []) midway
      → (steps : List WireStep) × HasDone told midway read between steps × IsTry m request a steps None
  try_is_lost (Ok u) failed tells = absurd (cc)
  try_is_lost (Err fault) failed tells = (
    step_of (Tried m.me a.from control_port request (Err fault)) now ∷ [],
    one_done told midway read between (Tried m.me a.from control_port request (Err fault)) now tells reads,
    lost now fault,
  )

  pub try_is_sent : (answer : Result (Unit {0}) NetFault) → is_err answer ≡ false
      → RecordsCalls told (Tried m.me a.from control_port request answer ∷ []) midway → (telling : Option (List Call))
      (reading : Option (List ℕ)) (polls : List WireStep) (reply : Option (List ℕ))
      → HasDone midway telling between reading polls → IsWait (wait_for m a now) polls reply
      → (steps : List WireStep) × HasDone told telling read reading steps × IsTry m request a steps reply
  try_is_sent (Err fault) went tells telling reading polls reply done waits = absurd (cc)
  try_is_sent (Ok u) went tells telling reading polls reply done waits = (
    step_of (Tried m.me a.from control_port request (Ok tt)) now ∷ polls,
    both_done told midway telling read between reading
        (step_of (Tried m.me a.from control_port request (Ok tt)) now ∷ []) polls
        (one_done told midway read between (Tried m.me a.from control_port request (Ok tt)) now tells reads) done,
    sent now polls reply waits,
  )

-- so many tries so far, all without a reply
pub record IsTrying (told telling : Option (List Call)) (read reading : Option (List ℕ)) (m : ProbeOptions)
    (request : List ℕ) (a : AwaitedReply) (count : ℕ) : Type 0 where
  pub steps : List WireStep
  pub done : HasDone told telling read reading steps
  pub tried : HasTried m request a count steps

pub no_try_yet : (told : Option (List Call)) (read : Option (List ℕ)) (m : ProbeOptions) (request : List ℕ) (a : AwaitedReply)
    → IsTrying told told read read m request a 0
no_try_yet told read m request a = record { steps = []; done = nothing_done told read; tried = no_try }

pub one_more_try : (told midway telling : Option (List Call)) (read between reading : Option (List ℕ)) (m : ProbeOptions)
    (request : List ℕ) (a : AwaitedReply) (count : ℕ) (more : List WireStep)
    → IsTrying told midway read between m request a count → HasDone midway telling between reading more
    → IsTry m request a more None → IsTrying told telling read reading m request a (count + 1)
one_more_try told midway telling read between reading m request a count more so_far done try = record {
  steps = so_far.steps ++ more;
  done = both_done told midway telling read between reading so_far.steps more so_far.done done;
  tried = one_try count so_far.steps more so_far.tried try;
}

module _ (told midway telling : Option (List Call)) (read between reading : Option (List ℕ)) (m : ProbeOptions)
    (request : List ℕ) (a : AwaitedReply) (count : ℕ) (so_far : IsTrying told midway read between m request a count)
    (more : List WireStep) (done : HasDone midway telling between reading more) where
  with_a_reply : (f : ℕ → List ℕ) (reply : Option ℕ) → IsTry m request a more (option_map f reply)
      → is_some reply ≡ true → count < m.tries → AreTries m request a (so_far.steps ++ more) (option_map f reply)
  with_a_reply f None is there few = absurd (cc)
  with_a_reply f (Some n) is there few = answered count so_far.steps more (f n) so_far.tried few is

  pub tries_are_answered : (f : ℕ → List ℕ) (reply : Option ℕ) → IsTry m request a more (option_map f reply)
      → is_some reply ≡ true → count < m.tries
      → (steps : List WireStep) × HasDone told telling read reading steps
      × AreTries m request a steps (option_map f reply)
  tries_are_answered f reply is there few = (
    so_far.steps ++ more,
    both_done told midway telling read between reading so_far.steps more so_far.done done,
    with_a_reply f reply is there few,
  )

  pub tries_go_on : (f : ℕ → List ℕ) (reply : Option ℕ) → IsTry m request a more (option_map f reply)
      → is_some reply ≡ false → IsTrying told telling read reading m request a (count + 1)
  tries_go_on f reply is absent =
      one_more_try told midway telling read between reading m request a count more so_far done
      (subst (λ (r : Option (List ℕ)). IsTry m request a more r) (none_mapped f reply absent) is)

pub tries_are_unanswered : (told telling : Option (List Call)) (read reading : Option (List ℕ)) (m : ProbeOptions)
    (request : List ℕ) (a : AwaitedReply) (count : ℕ) → IsTrying told telling read reading m request a count
    → count ≡ m.tries
    → (steps : List WireStep) × HasDone told telling read reading steps × AreTries m request a steps None
tries_are_unanswered told telling read reading m request a count so_far all = (
  so_far.steps,
  so_far.done,
  unanswered so_far.steps (subst (λ (n : ℕ). HasTried m request a n so_far.steps) all so_far.tried),
)
