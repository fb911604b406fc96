-- Each Map-Referral that wires with random nonces give is the reply to a request that went out below.
use Rattle.std.proofs.Common.{◌≡◌, ℕ, ◌^◌, ◌<◌, Bool, true, false, cond, List, [], ◌∷◌, ◌++◌, Some, Result, Ok, refl, sym, ap, subst, ◌∙◌, arith, append_assoc, append-nil, inl, inr, ◌⊎◌, Contains, ◌&&◌, ◌==◌, ◌≤◌, length, length-append, ◌/◌}
use Rattle.std.specs.List.{remove}
use Rattle.std.proofs.lemmas.Bool.{and_parts, eqb-true}
use Rattle.std.proofs.lemmas.List.Elements.{Contains-append_left, Contains-append_right, Contains-append_cases, Contains-push, Contains-push_cases}
use Rattle.ddt_path.specs.declared.locator.Locator.{Locator}
use Rattle.ddt_path.specs.declared.xeid.Xeid.{Xeid}
use Rattle.ddt_path.specs.Locators.{is_same_locator}
use Rattle.ddt_path.specs.laws.Locator.{same_locator}
use Rattle.ddt_ecm.specs.Request.{written}
use Rattle.ddt_ecm.specs.UdpHeader.{control_port}
use Rattle.ddt_wire.specs.Referral.{Message, Spells}
use Rattle.ddt_wire.specs.laws.Message.{messages_are_read}
use Rattle.ddt_sockets.specs.declared.wire_calls.Call.{Call}
use Rattle.ddt_sockets.specs.declared.wire_calls.Call.TheVariants.{Received, Tried}
use Rattle.ddt_sockets.specs.declared.wire_calls.NetFault.{NetFault}
use Rattle.ddt_sockets.specs.declared.wire_calls.Packet.{Packet}
use Rattle.ddt_resolver.specs.State.{request_bytes}
use Rattle.ddt_loop.specs.Right.{WasAsked}
use Rattle.ddt_sockets.specs.Nonces.Outstanding.{Request, is_reply_to}
use Rattle.ddt_sockets.specs.Nonces.Translation.{IsAsked, IsNumbered, with_nonce, sent_to, IsTranslated, asks, unsent, passes, none, failed, gives, lifts, drops, Translates, begins, one, forgets}
use Rattle.ddt_laws.specs.Nonces.Replies.{renamed, WasRequested, IsAwaited, LiftedRepliesWereAsked}

-- ---- what is outstanding was asked, on both sides

pub record WasNoted (plain wire : List Call) (s : Request) : Type 0 where
  pub x : Xeid
  pub bytes : List ℕ
  pub answer : Result (Unit {0}) NetFault
  pub asked : IsAsked bytes s.plain x
  pub there : Contains plain (Tried s.at s.to control_port bytes answer)
  pub out : Contains wire (Tried s.at s.to control_port (written s.wire x (s.at ∷ []) true) answer)

abbrev pub AreNoted : List Call → List Call → List Request → Type 0
AreNoted plain wire sent = (s : Request) → Contains sent s → WasNoted plain wire s

noted_more : {plain wire : List Call} {s : Request} (p w : List Call) → WasNoted plain wire s → WasNoted (plain ++ p) (wire ++ w) s
noted_more {plain = plain} {wire = wire} p w n = record {
  x = n.x;
  bytes = n.bytes;
  answer = n.answer;
  asked = n.asked;
  there = Contains-append_left plain p _ n.there;
  out = Contains-append_left wire w _ n.out;
}

unbounded_by : (b : Bool) (xs : List Request) (s : Request) → Contains (cond b (remove xs 0) xs) s → Contains xs s
unbounded_by false xs s k = k
unbounded_by true [] s k = k
unbounded_by true (x ∷ xs) s k = Contains-append_right (x ∷ []) xs s k

put_back : (before after : List Request) (t s : Request) → Contains (before ++ after) s → Contains (before ++ t ∷ after) s
put_back before after t s k = elim (Contains-append_cases before after s k) [
  | inl early ↦ Contains-append_left before (t ∷ after) s early
  | inr late ↦ Contains-append_right before (t ∷ after) s (Contains-append_right (t ∷ []) after s late)
]

put_all_back : (before gone after : List Request) (s : Request) → Contains (before ++ after) s → Contains (before ++ gone ++ after) s
put_all_back before gone after s k = elim (Contains-append_cases before after s k) [
  | inl early ↦ Contains-append_left (before ++ gone) after s (Contains-append_left before gone s early)
  | inr late ↦ Contains-append_right (before ++ gone) after s late
]

noted_by : {plain wire : List Call} {old new : List Request} {call : Call} {calls : List Call} → AreNoted plain wire old → IsTranslated old call calls new
    → AreNoted (plain ++ call ∷ []) (wire ++ calls) new
noted_by {plain = plain} {wire = wire} {old = old} all (asks at to bytes n w x answer is unused) s k =
    elim (Contains-push_cases old (sent_to at to w n) s (unbounded_by _ (old ++ sent_to at to w n ∷ []) s k)) [
      | inl there ↦ noted_more _ _ (all s there)
      | inr same ↦ subst (WasNoted (plain ++ Tried at to control_port bytes answer ∷ []) (wire ++ Tried at to control_port (written w x (at ∷ []) true) answer ∷ [])) same (record {
        x = x;
        bytes = bytes;
        answer = answer;
        asked = is;
        there = Contains-push plain _;
        out = Contains-push wire _;
      })
    ]
noted_by all (unsent at to bytes n x is) s k = noted_more _ _ (all s k)
noted_by all (passes at to port bytes answer not) s k = noted_more _ _ (all s k)
noted_by all (none at room) s k = noted_more _ _ (all s k)
noted_by all (failed at room fault) s k = noted_more _ _ (all s k)
noted_by all (gives at room p bytes not) s k = noted_more _ _ (all s k)
noted_by all (lifts at room p bytes n before after t numbered port its was) s k = noted_more _ _ (all s (rw was (put_back before after t s k)))
noted_by all (drops at room p bytes n numbered strange) s k = noted_more _ _ (all s k)

all_noted : {plain wire : List Call} {sent : List Request} → Translates plain wire sent → AreNoted plain wire sent
all_noted begins s k = let some = k.1 in absurd (omega (arith, some))
all_noted (one call calls new so_far is) s k = noted_by (all_noted so_far) is s k
all_noted (forgets before gone after so_far was) s k = all_noted so_far s (rw was (put_all_back before gone after s k))

-- ---- a call, and what was before it

abbrev Ends : List Call → List Call → List Call → Call → Call → Type 0
Ends xs ys zs x y = ((zs ≡ []) × (xs ≡ ys) × (x ≡ y)) ⊎ ((more : List Call) × (zs ≡ more ++ x ∷ []) × (xs ≡ ys ++ y ∷ more))

pub push_split : (xs ys zs : List Call) (x y : Call) → xs ++ x ∷ [] ≡ ys ++ y ∷ zs → Ends xs ys zs x y
push_split [] [] zs x y e = inl (cc e, refl, cc e)
push_split [] (w ∷ []) zs x y e = absurd (cc e)
push_split [] (w ∷ v ∷ ys) zs x y e = absurd (cc e)
push_split (v ∷ xs) [] zs x y e = inr (xs, cc e, cc e)
push_split (v ∷ xs) (w ∷ ys) zs x y e =
    let head : v ≡ w = cc e in
    elim (push_split xs ys zs x y (cc e)) [
      | inl h ↦ inl (h.0, cc (head, h.1), h.2)
      | inr h ↦ inr (h.0, h.1, cc (head, h.2))
    ]

pub record IsSplit (wire earlier : List Call) (c : Call) : Type 0 where
  pub before : List Call
  pub calls : List Call
  pub after : List Call
  pub old : List Request
  pub new : List Request
  pub translates : Translates earlier before old
  pub is : IsTranslated old c calls new
  pub whole : wire ≡ before ++ (calls ++ after)

pub split : {plain wire : List Call} {sent : List Request} → Translates plain wire sent → (earlier later : List Call) (c : Call) → plain ≡ earlier ++ c ∷ later → IsSplit wire earlier c
split begins [] later c e = absurd (cc e)
split begins (x ∷ earlier) later c e = absurd (cc e)
split (one {plain = p} {wire = w} {old = o} call calls new so_far is) earlier later c e = elim (push_split p earlier later call c e) [
  | inl h ↦ record {
    before = w;
    calls = calls;
    after = [];
    old = o;
    new = new;
    translates = subst (λ l. Translates l w o) h.1 so_far;
    is = subst (λ (d : Call). IsTranslated o d calls new) h.2 is;
    whole = ap (λ l. w ++ l) (sym (append-nil calls));
  }
  | inr h ↦
      let s = split so_far earlier h.0 c h.2 in
      record {
        before = s.before;
        calls = s.calls;
        after = s.after ++ calls;
        old = s.old;
        new = s.new;
        translates = s.translates;
        is = s.is;
        whole = ap (λ l. l ++ calls) s.whole ∙ append_assoc s.before (s.calls ++ s.after) calls ∙ ap (λ l. s.before ++ l) (append_assoc s.calls s.after calls);
      }
]
split (forgets before gone after so_far was) earlier later c e = split so_far earlier later c e

-- ---- a message with another nonce

pub renonced : (bytes : List ℕ) (v : Message) (n : ℕ) → n < 2 ^ 64 → Spells bytes v → Spells (with_nonce n bytes) (renamed v n)
renonced bytes v n lt s = record {
  ignored = s.ignored;
  mask = s.mask;
  eid = s.eid;
  locators = s.locators;
  nonce_fits = lt;
  ttl_fits = s.ttl_fits;
  mask_fits = s.mask_fits;
  count_fits = s.count_fits;
  spells_eid = s.spells_eid;
  spells_locators = s.spells_locators;
  whole = rw s.whole refl;
}

-- what spells a Map-Referral is of that type, and has its nonce
pub numbered_by : (bytes : List ℕ) (v : Message) → Spells bytes v → IsNumbered bytes v.nonce
numbered_by bytes v s = record { kind = rw s.whole (six _ (let fits = s.ignored.reserved_fits in omega (arith, fits))); nonce_fits = s.nonce_fits; long = rw (s.whole, length-append) (omega arith); whole = rw s.whole refl }
  where
    six : (n : ℕ) → n ≡ 6 → (n == 6) ≡ true
    six n is = rw is refl

-- the last nonce is what counts
renonced_again : (n m : ℕ) (bytes : List ℕ) → 12 ≤ length bytes → with_nonce n (with_nonce m bytes) ≡ with_nonce n bytes
renonced_again n m [] le = absurd (omega (arith, le))
renonced_again n m (a ∷ []) le = absurd (omega (arith, le))
renonced_again n m (a ∷ b ∷ []) le = absurd (omega (arith, le))
renonced_again n m (a ∷ b ∷ c ∷ []) le = absurd (omega (arith, le))
renonced_again n m (a ∷ b ∷ c ∷ d ∷ rest) le = refl

-- ---- what the caller is given

-- the parts of the test of a reply
pub record IsReplyTo (socket from : Locator) (nonce : ℕ) (s : Request) : Type 0 where
  pub wire : s.wire ≡ nonce
  pub at : s.at ≡ socket
  pub to : s.to ≡ from

pub reply_parts : (at from : Locator) (nonce : ℕ) (s : Request) → is_reply_to at from nonce s ≡ true → IsReplyTo at from nonce s
reply_parts at from nonce s its =
    let outer = and_parts ((s.wire == nonce) && is_same_locator s.at at) (is_same_locator s.to from) its in
    let inner = and_parts (s.wire == nonce) (is_same_locator s.at at) outer.0 in
    record { wire = eqb-true s.wire nonce inner.0; at = same_locator s.at at inner.1; to = same_locator s.to from outer.1 }

was_asked : (wire : List Call) (s : Request) (x : Xeid) (answer : Result (Unit {0}) NetFault) → Contains wire (Tried s.at s.to control_port (written s.wire x (s.at ∷ []) true) answer)
    → WasAsked s.at s.to s.wire x wire
unfolding request_bytes
was_asked wire s x answer out = (answer, out)

went_out_to : (at to : Locator) (wire : ℕ) (x : Xeid) (s : Request) (answer : Result (Unit {0}) NetFault) (calls : List Call) → s.at ≡ at → s.to ≡ to → s.wire ≡ wire
    → Contains calls (Tried s.at s.to control_port (written s.wire x (s.at ∷ []) true) answer) → WasAsked at to wire x calls
went_out_to at to wire x s answer calls here there its out =
    subst (λ (n : ℕ). WasAsked at to n x calls) its
    (subst (λ (l : Locator). WasAsked at l s.wire x calls) there
    (subst (λ (l : Locator). WasAsked l s.to s.wire x calls) here (was_asked calls s x answer out)))

requested_of : (at to : Locator) (plain : ℕ) (s : Request) (before wire : List Call) (n : WasNoted before wire s) → s.at ≡ at → s.to ≡ to → s.plain ≡ plain → WasRequested at to plain n.x before
requested_of at to plain s before wire n here there its = record {
  bytes = n.bytes;
  answer = n.answer;
  asked = subst (λ (k : ℕ). IsAsked n.bytes k n.x) its n.asked;
  tried = subst (λ (l : Locator). Contains before (Tried at l control_port n.bytes n.answer)) there
      (subst (λ (l : Locator). Contains before (Tried l s.to control_port n.bytes n.answer)) here n.there);
}

module _ (wire earlier : List Call) (at : Locator) (room : ℕ) (p : Packet) (bytes : List ℕ) (v : Message) (spelled : Spells bytes v) where
  awaited : (c : Call) (calls before after : List Call) (old new : List Request) → Translates earlier before old → wire ≡ before ++ (calls ++ after) → IsTranslated old c calls new
      → c ≡ Received at room (Ok (Some p)) bytes → IsAwaited at room p v earlier wire
  awaited c calls before after old new translates whole (asks from to b n w y answer its unused) e = absurd (cc e)
  awaited c calls before after old new translates whole (unsent from to b n y its) e = absurd (cc e)
  awaited c calls before after old new translates whole (passes from to q b answer not) e = absurd (cc e)
  awaited c calls before after old new translates whole (none socket room_) e = absurd (cc e)
  awaited c calls before after old new translates whole (failed socket room_ fault) e = absurd (cc e)
  awaited c calls before after old new translates whole (drops socket room_ q b n numbered strange) e = absurd (cc e)
  awaited c calls before after old new translates whole (gives socket room_ q b not) e =
      let same : bytes ≡ b = cc e in absurd (not v.nonce (numbered_by b v (subst (λ l. Spells l v) same spelled)))
  awaited c calls before after old new translates whole (lifts socket room_ q b n front back s numbered port its was) e =
      let same : bytes ≡ with_nonce s.plain b = cc e in
      let here : socket ≡ at = cc e in
      let packet : q ≡ p = cc e in
      let parts = reply_parts socket q.from n s its in
      let noted = all_noted translates s (rw was (Contains-append_right front (s ∷ back) s (Contains-append_left (s ∷ []) back s (Contains-push [] s)))) in
      let fits : s.plain < 2 ^ 64 = rw noted.asked.its_nonce at noted.asked.spells.spells_request.nonce_fits in
      let given : Spells (with_nonce s.plain b) v = subst (λ l. Spells l v) same spelled in
      let once_more : with_nonce s.plain (with_nonce s.plain b) ≡ with_nonce s.plain b = renonced_again s.plain s.plain b numbered.long in
      let one_message : v ≡ renamed v s.plain =
      messages_are_read.one (with_nonce s.plain b) v (renamed v s.plain) given
      (subst (λ l. Spells l (renamed v s.plain)) once_more (renonced (with_nonce s.plain b) v s.plain fits given)) in
      let came_as : with_nonce n (with_nonce s.plain b) ≡ b = renonced_again n s.plain b numbered.long ∙ sym numbered.whole in
      let at_it : s.at ≡ at = parts.at ∙ here in
      let to_it : s.to ≡ p.from = parts.to ∙ ap (λ (k : Packet). k.from) packet in
      record {
        nonce = n;
        x = noted.x;
        before = before;
        after = after;
        bytes = b;
        from_server = ap (λ (k : Packet). k.port) (sym packet) ∙ port;
        came = whole ∙ ap (λ (k : Call). before ++ k ∷ after) (cc (e, here, packet));
        spells = subst (λ l. Spells l (renamed v n)) came_as (renonced (with_nonce s.plain b) v n numbered.nonce_fits given);
        went_out = went_out_to at p.from n noted.x s noted.answer before at_it to_it parts.wire noted.out;
        asked = requested_of at p.from v.nonce s earlier before noted at_it to_it (ap (λ (m : Message). m.nonce) (sym one_message));
      }

pub replies_awaited : LiftedRepliesWereAsked
replies_awaited plain wire sent translates earlier later at room p bytes v is spelled =
    let s = split translates earlier later (Received at room (Ok (Some p)) bytes) is in
    awaited wire earlier at room p bytes v spelled _ s.calls s.before s.after s.old s.new s.translates s.whole s.is refl
