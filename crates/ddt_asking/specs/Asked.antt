-- Questions that were asked, by the steps, and what is found.
use Rattle.std.specs.Prelude.{ℕ, ◌≡◌, ◌/◌, Bool, true, false, List, [], ◌∷◌, ◌++◌, map, Option, None}
use Rattle.rand_core.specs.Stream.{Stream, next_u64}
use Rattle.ddt_path.specs.declared.record.ReferralRecord.{ReferralRecord}
use Rattle.ddt_path.specs.declared.xeid.Xeid.{Xeid}
use Rattle.ddt_path.specs.declared.locator.Locator.{Locator}
use Rattle.ddt_ecm.specs.Request.{written}
use Rattle.ddt_resolver.specs.State.{request_bytes}
use Rattle.ddt_asking.specs.declared.probe_options.Client.{Client}
use Rattle.ddt_asking.specs.declared.probe_options.Client.TheVariants.{Ddt, Itr}
use Rattle.ddt_asking.specs.declared.probe_options.ProbeOptions.{ProbeOptions}
use Rattle.ddt_asking.specs.declared.question.Question.{Question}
use Rattle.ddt_asking.specs.declared.reply_match.AwaitedReply.{AwaitedReply}
use Rattle.ddt_asking.specs.declared.verdict.Finding.{Finding}
use Rattle.ddt_asking.specs.declared.verdict.Verdict.{Verdict}
use Rattle.ddt_asking.specs.declared.await_reply.Wait.{Wait}
use Rattle.ddt_asking.specs.Steps.{WireStep}
use Rattle.ddt_asking.specs.Waits.{IsPoll, IsWait}
use Rattle.ddt_asking.specs.Tries.{AreTries}
use Rattle.ddt_asking.specs.Verdicts.{IsVerdict}
use Rattle.ddt_asking.specs.ItrVerdicts.{IsItrVerdict}

-- the bit D of a client's requests: a resolver sets it, and an ITR doesn't (RFC 8111, section 5)
abbrev pub sets_d : Client → Bool
sets_d Ddt = true
sets_d Itr = false

-- the request about an identifier under a nonce, as a resolver would send it, or as an ITR would; its one ITR-RLOC
-- is the socket's locator
abbrev pub request_of : Client → ℕ → Xeid → Locator → List ℕ
request_of Ddt nonce x me = request_bytes nonce x me
request_of Itr nonce x me = written nonce x (me ∷ []) false

-- the reply to a question about an identifier under a nonce
abbrev pub awaited_for : ProbeOptions → Xeid → Question → ℕ → AwaitedReply
awaited_for m x q n = record { client = m.client; from = q.to; nonce = n; xeid = x }

-- what comes of a question by its reply, as what is demanded of a server, or as what an ITR has to get
abbrev pub IsVerdictFor : Client → Xeid → ReferralRecord → ℕ → Option (List ℕ) → Verdict → Type 0
IsVerdictFor Ddt x demanded nonce reply verdict = IsVerdict demanded nonce reply verdict
IsVerdictFor Itr x demanded nonce reply verdict = IsItrVerdict x demanded nonce reply verdict

-- A question about an identifier was asked under a nonce, by the request of its client, and this is what its reply
-- comes to.
pub record IsAskedOfServer (m : ProbeOptions) (x : Xeid) (nonce : ℕ) (steps : List WireStep) (f : Finding) : Type 0
  where
    pub reply : Option (List ℕ)
    pub tries : AreTries m (request_of m.client nonce x m.me) (awaited_for m x f.question nonce) steps reply
    pub verdict : IsVerdictFor m.client x f.question.demanded nonce reply f.verdict

-- how many milliseconds a question is followed by, at a rate of so many a second; none without a rate
abbrev pub pause_of : ℕ → ℕ
pause_of rate = 1000 / rate

-- the wait of a pause, in which no reply is awaited
abbrev pub wait_from : ProbeOptions → ℕ → Wait
wait_from m now = record { at = m.me; awaited = None; since = now; millis = pause_of m.rate }

-- a pause: none at all, or a poll and then a wait from its moment on
pub data IsPause (m : ProbeOptions) : List WireStep → Type 0 where
  no_pause : pause_of m.rate ≡ 0 → IsPause m []
  pauses : (first : WireStep) (polls : List WireStep) → IsPoll m.me first.call
      → IsWait (wait_from m first.moment) polls None → IsPause m (first ∷ polls)

-- Questions about an identifier were asked one after the other, with a pause behind each. Their nonces are the next
-- numbers of a generator.
pub data HasAsked (m : ProbeOptions) (x : Xeid) (s : Stream) : List WireStep → List Finding → Stream → Type 0 where
  none_yet : HasAsked m x s [] [] s
  one_more : (before : List WireStep) (findings : List Finding) (t : Stream) (nonce : ℕ) (u : Stream)
      (asking pausing : List WireStep) (f : Finding) → HasAsked m x s before findings t → (nonce, u) ≡ next_u64 t
      → IsAskedOfServer m x nonce asking f → IsPause m pausing
      → HasAsked m x s (before ++ (asking ++ pausing)) (findings ++ f ∷ []) u

-- What is done of a question for which memory runs out: nothing, or all its tries, whatever comes of them.
pub data IsBegun (m : ProbeOptions) (x : Xeid) (nonce : ℕ) (q : Question) : List WireStep → Type 0 where
  unsent : IsBegun m x nonce q []
  all_tried : (steps : List WireStep) (reply : Option (List ℕ))
      → AreTries m (request_of m.client nonce x m.me) (awaited_for m x q nonce) steps reply → IsBegun m x nonce q steps

-- Memory ran out at one of these questions: those before it were asked, and none after it.
pub record HasStopped (m : ProbeOptions) (x : Xeid) (s : Stream) (questions : List Question) (steps : List WireStep)
    (t : Stream) : Type 0 where
  pub findings : List Finding
  pub question : Question
  pub after : List Question
  pub front : questions ≡ map (λ (f : Finding). f.question) findings ++ question ∷ after
  pub before : List WireStep
  pub stream : Stream
  pub asked : HasAsked m x s before findings stream
  pub nonce : ℕ
  pub drawn : (nonce, t) ≡ next_u64 stream
  pub last : List WireStep
  pub begun : IsBegun m x nonce question last
  pub all : steps ≡ before ++ last
