-- Questions asked so far.
use Rattle.std.proofs.Common.{◌≡◌, ℕ, ◌+◌, ◌<◌, List, [], ◌∷◌, ◌++◌, length, get_or, take, drop, map, refl, sym, ap, subst, ◌∙◌}
use Rattle.std.proofs.lemmas.List.{append_assoc, map_push, take_more, take-append-drop}
use Rattle.std.specs.Result.{OnErr}
use Rattle.std.specs.Prelude.{Option, Some, None, Result, Ok, Err}
use Rattle.rand_core.specs.Stream.{Stream, next_u64}
use Rattle.ddt_path.specs.declared.xeid.Xeid.{Xeid}
use Rattle.ddt_path.specs.declared.locator.Locator.{Locator}
use Rattle.ddt_ecm.specs.Request.{written}
use Rattle.ddt_resolver.specs.State.{request_bytes}
use Rattle.ddt_sockets.specs.declared.wire_calls.Call.{Call}
use Rattle.ddt_sockets.specs.declared.wire_calls.Call.TheVariants.{Received, Tried}
use Rattle.ddt_sockets.specs.declared.wire_calls.NetFault.{NetFault}
use Rattle.ddt_sockets.specs.declared.wire_calls.Packet.{Packet}
use Rattle.ddt_sockets.specs.Calls.{RecordsCalls, received}
use Rattle.ddt_sockets.specs.Turns.{most_bytes}
use Rattle.ddt_asking.specs.declared.probe_options.Client.{Client}
use Rattle.ddt_asking.specs.declared.probe_options.Client.TheVariants.{Ddt, Itr}
use Rattle.ddt_asking.specs.declared.probe_options.ProbeOptions.{ProbeOptions}
use Rattle.ddt_asking.specs.declared.question.Question.{Question}
use Rattle.ddt_asking.specs.declared.verdict.Finding.{Finding}
use Rattle.ddt_asking.specs.declared.verdict.Verdict.{Verdict}
use Rattle.ddt_asking.specs.declared.verdict.Verdict.TheVariants.{Silent}
use Rattle.ddt_path.specs.declared.record.ReferralRecord.{ReferralRecord}
use Rattle.ddt_asking.specs.Verdicts.{silent}
use Rattle.ddt_asking.specs.ItrVerdicts.{itr_silent}
use Rattle.ddt_asking.specs.declared.await_reply.Wait.{Wait}
use Rattle.ddt_asking.specs.Replies.{reply_of}
use Rattle.ddt_asking.specs.Steps.{WireStep, step_of, HasDone}
use Rattle.ddt_asking.specs.Waits.{IsWait, replied, over, used_up}
use Rattle.ddt_asking.specs.Tries.{AreTries}
use Rattle.ddt_asking.specs.Asked.{sets_d, request_of, IsVerdictFor, awaited_for, pause_of, IsAskedOfServer, IsPause, no_pause, pauses, HasAsked, none_yet, one_more, IsBegun, unsent, all_tried, HasStopped}
use Rattle.ddt_asking.proofs.StepLemmas.{nothing_done, one_done, both_done}

-- ---- one question

-- the request is that of its client
is_requested : (client : Client) (nonce : ℕ) (x : Xeid) (me : Locator) (request : List ℕ)
    → request ≡ written nonce x (me ∷ []) (sets_d client) → request ≡ request_of client nonce x me
unfolding request_bytes
is_requested Ddt nonce x me request is = is
is_requested Itr nonce x me request is = is

pub question_asked : (m : ProbeOptions) (x : Xeid) (nonce : ℕ) (request : List ℕ) (steps : List WireStep)
    (its_reply : Option (List ℕ)) (q : Question) (found : Verdict)
    → request ≡ written nonce x (m.me ∷ []) (sets_d m.client)
    → AreTries m request (awaited_for m x q nonce) steps its_reply
    → IsVerdictFor m.client x q.demanded nonce its_reply found
    → IsAskedOfServer m x nonce steps (record { question = q; verdict = found })
question_asked m x nonce request steps its_reply q found is tried judged = record {
  reply = its_reply;
  tries = subst (λ (bytes : List ℕ). AreTries m bytes (awaited_for m x q nonce) steps its_reply)
      (is_requested m.client nonce x m.me request is) tried;
  verdict = judged;
}

-- without a reply it is silent
pub silent_for : (client : Client) (x : Xeid) (demanded : ReferralRecord) (nonce : ℕ)
    → IsVerdictFor client x demanded nonce None Silent
silent_for Ddt x demanded nonce = silent
silent_for Itr x demanded nonce = itr_silent

-- ---- a pause

-- where no reply is awaited, no call gives one
none_awaited : (call : Call) (bytes : List ℕ) → reply_of None call ≡ Some bytes → ⊥
none_awaited (Received at room (Ok (Some p)) b) bytes is = absurd (cc)
none_awaited (Received at room (Ok None) b) bytes is = absurd (cc)
none_awaited (Received at room (Err fault) b) bytes is = absurd (cc)
none_awaited (Tried at to port b answer) bytes is = absurd (cc)

no_reply : (w : Wait) (steps : List WireStep) (reply : Option (List ℕ)) → w.awaited ≡ None → IsWait w steps reply
    → IsWait w steps None
no_reply w steps reply none (replied vain last bytes vains poll early is) =
    absurd (none_awaited last.call bytes (subst (λ a. reply_of a last.call ≡ Some bytes) none is))
no_reply w steps reply none (over vain last vains poll late) = over vain last vains poll late
no_reply w steps reply none (used_up vain vains all) = used_up vain vains all

pub has_no_pause : (told : Option (List Call)) (read : Option (List ℕ)) (m : ProbeOptions) → pause_of m.rate ≡ 0
    → (steps : List WireStep) × HasDone told told read read steps × IsPause m steps
has_no_pause told read m none = ([], nothing_done told read, no_pause none)

pub has_paused : (told midway telling : Option (List Call)) (read between reading : Option (List ℕ)) (m : ProbeOptions)
    (answer : Result (Option Packet) NetFault) (buffer : List ℕ) (now pause : ℕ) (polls : List WireStep)
    (reply : Option (List ℕ)) → pause ≡ pause_of m.rate → length buffer ≡ most_bytes
    → RecordsCalls told (received m.me answer buffer ∷ []) midway → RecordsCalls read (now ∷ []) between
    → HasDone midway telling between reading polls
    → IsWait (record { at = m.me; awaited = None; since = now; millis = pause }) polls reply
    → (steps : List WireStep) × HasDone told telling read reading steps × IsPause m steps
has_paused told midway telling read between reading m answer buffer now pause polls reply is room tells reads done w =
    let waited = no_reply (record { at = m.me; awaited = None; since = now; millis = pause }) polls reply refl w in (
      step_of (received m.me answer buffer) now ∷ polls,
      both_done told midway telling read between reading (step_of (received m.me answer buffer) now ∷ []) polls
          (one_done told midway read between (received m.me answer buffer) now tells reads) done,
      pauses (step_of (received m.me answer buffer) now) polls (refl, room)
          (subst
          (λ (n : ℕ). IsWait (record { at = m.me; awaited = None; since = now; millis = n }) polls None) is waited),
    )

-- ---- the questions so far

pub record IsAsking (told telling : Option (List Call)) (read reading : Option (List ℕ)) (m : ProbeOptions) (x : Xeid)
    (s : Stream) (findings : List Finding) (t : Stream) : Type 0 where
  pub steps : List WireStep
  pub done : HasDone told telling read reading steps
  pub asked : HasAsked m x s steps findings t

pub none_asked_yet : (told : Option (List Call)) (read : Option (List ℕ)) (m : ProbeOptions) (x : Xeid) (s : Stream)
    → IsAsking told told read read m x s [] s
none_asked_yet told read m x s = record { steps = []; done = nothing_done told read; asked = none_yet }

pub one_more_asked : (told one two telling : Option (List Call)) (read once twice reading : Option (List ℕ))
    (m : ProbeOptions) (x : Xeid) (s : Stream) (findings : List Finding) (t : Stream) (nonce : ℕ) (u : Stream)
    (asking pausing : List WireStep) (f : Finding) → IsAsking told one read once m x s findings t
    → (nonce, u) ≡ next_u64 t → HasDone one two once twice asking → IsAskedOfServer m x nonce asking f
    → HasDone two telling twice reading pausing → IsPause m pausing
    → IsAsking told telling read reading m x s (findings ++ f ∷ []) u
one_more_asked told one two telling read once twice reading m x s findings t nonce u asking pausing f so_far next
    done is rested pause = record {
      steps = so_far.steps ++ (asking ++ pausing);
      done = both_done told one telling read once reading so_far.steps (asking ++ pausing) so_far.done
          (both_done one two telling once twice reading asking pausing done rested);
      asked = one_more so_far.steps findings t nonce u asking pausing f so_far.asked next is pause;
    }

pub questions_so_far : (questions : List Question) (findings : List Finding) (i : ℕ) (q : Question) (f : Finding)
    → i < length questions → q ≡ get_or questions i q → f.question ≡ q
    → map (λ (g : Finding). g.question) findings ≡ take i questions
    → map (λ (g : Finding). g.question) (findings ++ f ∷ []) ≡ take (i + 1) questions
questions_so_far questions findings i q f lt is same so_far =
    map_push (λ (g : Finding). g.question) findings f
    ∙ ap (λ (qs : List Question). qs ++ f.question ∷ []) so_far
    ∙ ap (λ (p : Question). take i questions ++ p ∷ []) (same ∙ is)
    ∙ sym (take_more questions i q lt)

-- ---- where memory runs out

pub at_error : {T E : Type 0} {P : Type 0} (r : Result T E) → P → OnErr r P
at_error (Ok x) is = tt
at_error (Err e) is = is

-- before the request of a question is made
pub none_begun : (told : Option (List Call)) (read : Option (List ℕ)) (m : ProbeOptions) (x : Xeid) (nonce : ℕ) (q : Question)
    → (steps : List WireStep) × HasDone told told read read steps × IsBegun m x nonce q steps
none_begun told read m x nonce q = ([], nothing_done told read, unsent)

pub begun_of : (m : ProbeOptions) (x : Xeid) (nonce : ℕ) (q : Question) (steps : List WireStep) (f : Finding)
    → f.question ≡ q → IsAskedOfServer m x nonce steps f → IsBegun m x nonce q steps
begun_of m x nonce q steps f same is = all_tried steps is.reply
    (subst
    (λ (p : Question). AreTries m (request_of m.client nonce x m.me) (awaited_for m x p nonce) steps is.reply) same
    is.tries)

pub question_begun : (m : ProbeOptions) (x : Xeid) (nonce : ℕ) (request : List ℕ) (steps : List WireStep)
    (its_reply : Option (List ℕ)) (q : Question) → request ≡ written nonce x (m.me ∷ []) (sets_d m.client)
    → AreTries m request (awaited_for m x q nonce) steps its_reply → IsBegun m x nonce q steps
question_begun m x nonce request steps its_reply q is are = all_tried steps its_reply
    (subst (λ (bytes : List ℕ). AreTries m bytes (awaited_for m x q nonce) steps its_reply)
    (is_requested m.client nonce x m.me request is) are)

-- the questions from the next one on
pub questions_from : (questions : List Question) (findings : List Finding) (i : ℕ) (q : Question)
    → i < length questions → q ≡ get_or questions i q
    → map (λ (g : Finding). g.question) findings ≡ take i questions
    → questions ≡ map (λ (g : Finding). g.question) findings ++ q ∷ drop (i + 1) questions
questions_from questions findings i q lt is so_far =
    sym (take-append-drop (i + 1) questions)
    ∙ ap (λ (qs : List Question). qs ++ drop (i + 1) questions)
    (take_more questions i q lt ∙ ap (λ (p : Question). take i questions ++ p ∷ []) (sym is)
    ∙ ap (λ (qs : List Question). qs ++ q ∷ []) (sym so_far))
    ∙ append_assoc (map (λ (g : Finding). g.question) findings) (q ∷ []) (drop (i + 1) questions)

pub stopped_at : (told one telling : Option (List Call)) (read once reading : Option (List ℕ)) (m : ProbeOptions) (x : Xeid)
    (s : Stream) (questions : List Question) (findings : List Finding) (i : ℕ) (q : Question) (t : Stream) (nonce : ℕ)
    (u : Stream) (asking : List WireStep) → i < length questions → q ≡ get_or questions i q
    → map (λ (g : Finding). g.question) findings ≡ take i questions → IsAsking told one read once m x s findings t
    → (nonce, u) ≡ next_u64 t → HasDone one telling once reading asking → IsBegun m x nonce q asking
    → (steps : List WireStep) × HasDone told telling read reading steps × HasStopped m x s questions steps u
stopped_at told one telling read once reading m x s questions findings i q t nonce u asking lt is each so_far next done
    begun = (
      so_far.steps ++ asking,
      both_done told one telling read once reading so_far.steps asking so_far.done done,
      record {
        findings = findings;
        question = q;
        after = drop (i + 1) questions;
        front = questions_from questions findings i q lt is each;
        before = so_far.steps;
        stream = t;
        asked = so_far.asked;
        nonce = nonce;
        drawn = next;
        last = asking;
        begun = begun;
        all = refl;
      },
    )
