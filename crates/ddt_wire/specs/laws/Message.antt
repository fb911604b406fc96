-- A Map-Referral or a negative Map-Reply that is read is spelled so, what is spelled is read again, and what is written
-- spells what was to be written.
use Rattle.std.proofs.Common.{◌≡◌, ℕ, zero, suc, ◌+◌, ◌*◌, ◌/◌, ◌%◌, ◌^◌, ◌<◌, ◌≤◌, Bool, true, false, cond, eqb, List, [], ◌++◌, length, drop, Option, Some, None, Ok, Err, refl, sym, ap, subst, ◌∙◌, arith, length-append, length-drop, append_assoc}
use Rattle.std.specs.Prelude.{not}
use Rattle.std.specs.List.{flat_map}
use Rattle.std.proofs.lemmas.Bool.{eqb-true, eq-eqb, not-false}
use Rattle.std.proofs.lemmas.List.{append-nil, nil_from_length, drop-drop, drop_all, take_all}
use Rattle.std.proofs.Math.Seq.{drop-append_seam}
use Rattle.ddt_path.specs.declared.locator.Locator.{Locator}
use Rattle.ddt_path.specs.declared.action.Action.{Action}
use Rattle.ddt_path.specs.Actions.{number, action_of}
use Rattle.ddt_path.specs.Locators.{most_locators}
use Rattle.ddt_path.specs.declared.record.ReferralRecord.{ReferralRecord}
use Rattle.ddt_path.specs.laws.Action.{number_of, action_again, number-le}
use Rattle.ddt_wire.specs.declared.head.Head.{Head}
use Rattle.ddt_wire.specs.declared.fault.ReferralFault.{ReferralFault}
use Rattle.ddt_wire.specs.declared.fault.ReferralFault.TheVariants as fault
use Rattle.ddt_wire.specs.declared.negative_reply.NegativeReply.{NegativeReply}
use Rattle.ddt_wire.specs.declared.negative_reply.ReplyFault.{ReplyFault}
use Rattle.ddt_wire.specs.declared.negative_reply.ReplyFault.TheVariants as reply_fault
use Rattle.ddt_path.specs.Steps.{in_words, IsBytes}
use Rattle.ddt_path.specs.Reader.{AreRead}
use Rattle.ddt_wire.specs.Head.{head_bytes, IsHead, action_number, head_at}
use Rattle.ddt_wire.specs.Eid.{eid_at, written_eid, written_mask_len}
use Rattle.ddt_wire.specs.Addresses.{addresses_at}
use Rattle.ddt_wire.specs.LocatorRecord.{from_address, locators_at, before_written, written_locator}
use Rattle.ddt_wire.specs.Referral.{Message, Ignored, Spells, bit, flags_of, message_head, from_head, from_eid, action_or_fault, action_in, message_with, message_in, written, message_of, message_record}
use Rattle.ddt_wire.specs.NegativeReply as reply
use Rattle.ddt_wire.specs.NegativeReply.{reply_head, SpellsReply, written_reply, reply_of, reply_in}
use Rattle.ddt_wire.specs.laws.Statements.{IsRecord, IsReply}
use Rattle.ddt_path.specs.laws.Reader.{are_read}
use Rattle.ddt_path.specs.laws.Step.{bind_ok, bind_parts, guard_parts, words_ok, held_ok, ok_is}
use Rattle.ddt_path.specs.laws.Byte.{IsBetween, ◌followed_by◌, stands, IsBytes-drop, IsBytes-number, ◌beside◌}
use Rattle.ddt_wire.specs.laws.Head.{BeginsWith, head_takes, head_again, head_is_bytes}
use Rattle.ddt_wire.specs.laws.Eid.{IsEid, eid_takes, eid_again, eid_some, eid_spells, eid_is_bytes, mask_len_fits, four}
use Rattle.ddt_wire.specs.laws.Addresses.{AreAddresses, addresses_take, addresses_again, addresses_spell, addresses_are_bytes}

-- ---- the flags

pub bit_of : (x : ℕ) → x < 2 → bit (eqb x 1) ≡ x
bit_of zero lt = refl
bit_of (suc zero) lt = refl
bit_of (suc (suc x)) lt = absurd (omega arith)

pub bit_again : (b : Bool) (x : ℕ) → x ≡ bit b → eqb x 1 ≡ b
bit_again true x e = ap (λ (n : ℕ). eqb n 1) e
bit_again false x e = ap (λ (n : ℕ). eqb n 1) e

pub bit-le : (b : Bool) → bit b ≤ 1
bit-le true = omega arith
bit-le false = omega arith

some_action : (o : Option Action) (action : Action) → action_or_fault o ≡ Ok action → o ≡ Some action
some_action (Some a) action e = cc
some_action None action e = absurd cc

-- what the flags and the version say where they are right
abbrev IsUnsigned : Head → Action → Type 0
IsUnsigned h action = (h.flags / 2 ^ 13 ≡ number action) × (h.version / 2 ^ 12 ≡ 0)

action_holds : (h : Head) (action : Action) → action_in h ≡ Ok action → IsUnsigned h action
unfolding action_in
action_holds h action e =
    let f = bind_ok (action_or_fault (action_of (action_number h))) (λ a. cond (eqb (h.version / 2 ^ 12) 0) (Ok a) (Err fault.Signed)) action e in
    let g = held_ok (eqb (h.version / 2 ^ 12) 0) fault.Signed (Ok f.0) action f.2 in
    let same : f.0 ≡ action = ok_is {E = ReferralFault} f.0 action g.1 in
    (number_of (action_number h) f.0 (some_action (action_of (action_number h)) f.0 f.1) ∙ ap number same, eqb-true _ _ g.0)

flags_stand : (h : Head) (action : Action) → IsUnsigned h action
    → flags_of action (eqb (h.flags / 2 ^ 12 % 2) 1) (eqb (h.flags / 2 ^ 11 % 2) 1) (h.flags % 2 ^ 11) ≡ h.flags
flags_stand h action u =
    let a = bit_of (h.flags / 2 ^ 12 % 2) (omega arith) in
    let i = bit_of (h.flags / 2 ^ 11 % 2) (omega arith) in
    omega (arith, u.0, a, i)

-- ---- what is read is spelled so

abbrev ignored_of : (h : Head) (action : Action) (reserved_ : ℕ) → reserved_ < 2 ^ 20 → IsHead h → IsUnsigned h action → Ignored
ignored_of h action reserved_ fits is u = record {
  reserved = reserved_;
  authoritative = eqb (h.flags / 2 ^ 12 % 2) 1;
  flags = h.flags % 2 ^ 11;
  version = h.version;
  reserved_fits = fits;
  flags_fits = omega arith;
  version_fits = omega (arith, u.1);
}

head_back : (h : Head) (action : Action) (p : List ℕ) (ls : List Locator) → IsUnsigned h action → length ls ≡ h.locators
    → message_head h.mask_len (eqb (h.flags / 2 ^ 12 % 2) 1) (h.flags % 2 ^ 11) h.version (message_with h action p ls) ≡ h
head_back h action p ls u count = let f = flags_stand h action u in rw (count, f) refl

ended : (bytes text front rest : List ℕ) (n : ℕ) → IsBetween bytes 0 text n → drop n bytes ≡ front ++ rest → rest ≡ [] → bytes ≡ text ++ front
ended bytes text front rest n p q e = p.is ∙ ap (λ (t : List ℕ). text ++ t) (q ∙ ap (λ (t : List ℕ). front ++ t) e ∙ append-nil front)

-- a datagram of which the head, the EID and the locators were read
spelled : (bytes : List ℕ) (h : Head) (action : Action) (p : List ℕ) (n : ℕ) (ls : List Locator) (rest : List ℕ) → BeginsWith 6 bytes h → IsUnsigned h action → IsEid h.mask_len (drop 22 bytes) p n
    → AreAddresses 6 (drop n (drop 22 bytes)) ls rest → length ls ≡ h.locators → rest ≡ [] → Spells bytes (message_with h action p ls)
spelled bytes h action p n ls rest b u (text, t, s) l count nothing =
    let i = ignored_of h action b.ignored b.ignored_fits b.fits u in
    let front = head_bytes 6 b.ignored (message_head h.mask_len i.authoritative i.flags i.version (message_with h action p ls)) in
    let one : IsBetween bytes 0 front 22 = subst (λ (x : Head). IsBetween bytes 0 (head_bytes 6 b.ignored x) 22) (sym (head_back h action p ls u count)) b.stands in
    let two = one followed_by stands bytes text 22 n t in
    record {
      ignored = i;
      mask = h.mask_len;
      eid = text;
      locators = l.front;
      nonce_fits = b.fits.nonce_fits;
      ttl_fits = b.fits.ttl_fits;
      mask_fits = b.fits.mask_fits;
      count_fits = omega (arith, count, b.fits.locators_fit);
      spells_eid = s;
      spells_locators = l.spelled;
      whole = ended bytes (front ++ text) l.front rest (22 + n) two (sym (drop-drop n 22 bytes) ∙ l.parts) nothing;
    }

pub message_takes : (bytes : List ℕ) (v : Message) → IsBytes bytes → message_in bytes ≡ Ok v → Spells bytes v
unfolding message_in
message_takes bytes v fits e =
    bind_parts (in_words from_head (head_at 6 bytes)) _ v e λ h read₁ e₁.
    bind_parts (action_in h) _ v e₁ λ action read₂ e₂.
    bind_parts (in_words from_eid (eid_at h.mask_len (drop 22 bytes))) _ v e₂ λ eid read₃ e₃.
    bind_parts (locators_at h.locators (drop eid.1 (drop 22 bytes))) _ v e₃ λ ls read₄ e₄.
    let f = held_ok (eqb (length ls.1) 0) fault.Trailing (Ok (message_with h action eid.0 ls.0)) v e₄ in
    let eid_fits = IsBytes-drop 22 bytes fits in
    let begins = head_takes 6 bytes h fits (words_ok from_head (head_at 6 bytes) h read₁) in
    let r = eid_takes h.mask_len (drop 22 bytes) eid eid_fits (words_ok from_eid (eid_at h.mask_len (drop 22 bytes)) eid read₃) in
    let from_locators = drop eid.1 (drop 22 bytes) in
    let l = addresses_take 6 h.locators from_locators ls (IsBytes-drop eid.1 (drop 22 bytes) eid_fits) (words_ok from_address (addresses_at 6 h.locators from_locators) ls read₄) in
    let made = spelled bytes h action eid.0 eid.1 ls.0 ls.1 begins (action_holds h action read₂) r l.0 l.1 (nil_from_length ls.1 (eqb-true (length ls.1) 0 f.0)) in
    subst (Spells bytes) (ok_is {E = ReferralFault} (message_with h action eid.0 ls.0) v f.1) made

-- ---- what is spelled is read again

action_read : (h : Head) (action : Action) → IsUnsigned h action → action_in h ≡ Ok action
unfolding action_in
action_read h action (same, signatures) = rw (same, action_again action, signatures) refl

message_read : (bytes : List ℕ) (h : Head) (action : Action) (p : List ℕ) (n : ℕ) (ls : List Locator) → head_at 6 bytes ≡ Ok h → action_in h ≡ Ok action → eid_at h.mask_len (drop 22 bytes) ≡ Ok (p, n)
    → locators_at h.locators (drop n (drop 22 bytes)) ≡ Ok (ls, []) → message_in bytes ≡ Ok (message_with h action p ls)
unfolding message_in
message_read bytes h action p n ls b a e l = rw (b, a, e, l) refl

flags_fit : (a b i f : ℕ) → a ≤ 5 → b ≤ 1 → i ≤ 1 → f < 2 ^ 11 → a * 2 ^ 13 + b * 2 ^ 12 + i * 2 ^ 11 + f < 2 ^ 16
flags_fit a b i f ha hb hi hf = omega arith

act_again : (a b i f : ℕ) → a ≤ 5 → b ≤ 1 → i ≤ 1 → f < 2 ^ 11 → (a * 2 ^ 13 + b * 2 ^ 12 + i * 2 ^ 11 + f) / 2 ^ 13 ≡ a
act_again a b i f ha hb hi hf = omega arith

incomplete_again : (a b i f : ℕ) → a ≤ 5 → b ≤ 1 → i ≤ 1 → f < 2 ^ 11 → (a * 2 ^ 13 + b * 2 ^ 12 + i * 2 ^ 11 + f) / 2 ^ 11 % 2 ≡ i
incomplete_again a b i f ha hb hi hf = omega arith

-- the head of a message that is spelled
abbrev pub head_spelled : Ignored → ℕ → Message → Head
head_spelled i mask v = message_head mask i.authoritative i.flags i.version v

pub head_fits : (bytes : List ℕ) (v : Message) (s : Spells bytes v) → IsHead (head_spelled s.ignored s.mask v)
head_fits bytes v s =
    let i = s.ignored in
    record {
      nonce_fits = s.nonce_fits;
      ttl_fits = s.ttl_fits;
      locators_fit = s.count_fits;
      mask_fits = s.mask_fits;
      flags_fit = flags_fit (number v.action) (bit i.authoritative) (bit v.incomplete) i.flags (number-le v.action) (bit-le i.authoritative) (bit-le v.incomplete) i.flags_fits;
      version_fits = omega (arith, i.version_fits);
    }

message_back : (i : Ignored) (mask : ℕ) (v : Message) → message_with (head_spelled i mask v) v.action v.prefix v.locators ≡ v
message_back i mask v =
    let h = head_spelled i mask v in
    let f = bit_again v.incomplete (h.flags / 2 ^ 11 % 2) (incomplete_again (number v.action) (bit i.authoritative) (bit v.incomplete) i.flags (number-le v.action) (bit-le i.authoritative) (bit-le v.incomplete) i.flags_fits) in
    rw (f) refl

pub message_again : (bytes : List ℕ) (v : Message) → Spells bytes v → message_in bytes ≡ Ok v
message_again bytes v s =
    let i = s.ignored in
    let h = head_spelled i s.mask v in
    let front = head_bytes 6 i.reserved h in
    let tail = s.eid ++ s.locators in
    let regrouped : bytes ≡ front ++ tail = s.whole ∙ append_assoc front s.eid s.locators in
    let some : 2 ≤ length tail = omega (arith, length-append s.eid s.locators, eid_some s.mask s.eid v.prefix s.spells_eid) in
    let begins = head_again 6 i.reserved h tail (omega arith) i.reserved_fits (head_fits bytes v s) some in
    let same = act_again (number v.action) (bit i.authoritative) (bit v.incomplete) i.flags (number-le v.action) (bit-le i.authoritative) (bit-le v.incomplete) i.flags_fits in
    let action = action_read h v.action (same, omega (arith, i.version_fits)) in
    let locators : locators_at (length v.locators) (drop (length s.eid) tail) ≡ Ok (v.locators, []) =
    ap (locators_at (length v.locators)) (drop-append_seam s.eid s.locators ∙ sym (append-nil s.locators)) ∙ ap (in_words from_address) (addresses_again 6 s.locators v.locators [] s.spells_locators) in
    ap message_in regrouped
    ∙ message_read (front ++ tail) h v.action v.prefix (length s.eid) v.locators begins action (eid_again s.mask s.eid v.prefix s.locators s.spells_eid) locators
    ∙ ap (λ (m : Message). Ok m) (message_back i s.mask v)

-- ---- only bytes, the laws, and what is written

pub message_is_bytes : (bytes : List ℕ) (v : Message) → Spells bytes v → IsBytes bytes
message_is_bytes bytes v s =
    let head = head_is_bytes 6 s.ignored.reserved (head_spelled s.ignored s.mask v) (head_fits bytes v s) in
    subst IsBytes (sym s.whole) (head beside eid_is_bytes s.mask s.eid v.prefix s.spells_eid beside addresses_are_bytes 6 v.locators s.locators s.spells_locators)

pub messages_are_read : AreRead IsBytes Spells message_in
messages_are_read = are_read message_again message_takes message_is_bytes

before_is_bytes : IsBytes before_written
before_is_bytes = four 1 100 255 0 (omega arith) (omega arith) (omega arith) (omega arith) beside IsBytes-number 2 1

pub written_spells : (nonce : ℕ) (r : ReferralRecord) → IsRecord nonce r → Spells (written nonce r) (message_of nonce r)
written_spells nonce r h =
    let none : Ignored = record { reserved = 0; authoritative = true; flags = 0; version = 0; reserved_fits = omega arith; flags_fits = omega arith; version_fits = omega arith } in
    record {
      ignored = none;
      mask = written_mask_len r.prefix;
      eid = written_eid r.prefix;
      locators = flat_map written_locator r.servers;
      nonce_fits = h.nonce_fits;
      ttl_fits = h.ttl_fits;
      mask_fits = mask_len_fits r.prefix h.prefix_is;
      count_fits = omega (arith, h.count_fits);
      spells_eid = eid_spells r.prefix h.prefix_is;
      spells_locators = addresses_spell before_written r.servers before_is_bytes h.servers_fit;
      whole = refl;
    }

pub record_back : (nonce : ℕ) (r : ReferralRecord) → length r.servers ≤ most_locators → message_record (message_of nonce r) ≡ r
record_back nonce r few =
    ap (λ (ls : List Locator). record r { servers = ls }) (take_all most_locators r.servers few)

-- ---- a negative Map-Reply that is read is spelled so

reply_head_back : (h : Head) (p : List ℕ) → h.locators ≡ 0 → action_number h ≡ 1 → reply_head h.mask_len (h.flags % 2 ^ 13) h.version (reply_of h.nonce h.ttl p) ≡ h
reply_head_back h p none act =
    let flags_ : 2 ^ 13 + h.flags % 2 ^ 13 ≡ h.flags = omega (arith, act) in
    ap (λ (k : ℕ). record h { locators = 0; flags = k }) flags_ ∙ ap (λ (k : ℕ). record h { locators = k }) (sym none)

-- a datagram of which the head and the EID were read
reply_spelled : (bytes : List ℕ) (h : Head) (p : List ℕ) (n : ℕ) → BeginsWith 2 bytes h → h.locators ≡ 0 → action_number h ≡ 1 → IsEid h.mask_len (drop 22 bytes) p n → n ≡ length (drop 22 bytes)
    → SpellsReply bytes (reply_of h.nonce h.ttl p)
reply_spelled bytes h p n b none act (text, t, s) all =
    let i : reply.Ignored = record { reserved = b.ignored; flags = h.flags % 2 ^ 13; version = h.version; reserved_fits = b.ignored_fits; flags_fits = omega arith; version_fits = b.fits.version_fits } in
    let front = head_bytes 2 b.ignored (reply_head h.mask_len i.flags i.version (reply_of h.nonce h.ttl p)) in
    let one : IsBetween bytes 0 front 22 = subst (λ (x : Head). IsBetween bytes 0 (head_bytes 2 b.ignored x) 22) (sym (reply_head_back h p none act)) b.stands in
    let two = one followed_by stands bytes text 22 n t in
    let nothing : drop (22 + n) bytes ≡ [] = drop_all (22 + n) bytes (omega (arith, all, length-drop 22 bytes)) in
    record {
      ignored = i;
      mask = h.mask_len;
      eid = text;
      nonce_fits = b.fits.nonce_fits;
      ttl_fits = b.fits.ttl_fits;
      mask_fits = b.fits.mask_fits;
      spells_eid = s;
      whole = two.is ∙ ap (λ (rest : List ℕ). (front ++ text) ++ rest) nothing ∙ append-nil (front ++ text);
    }

pub reply_takes : (bytes : List ℕ) (v : NegativeReply) → IsBytes bytes → reply_in bytes ≡ Ok v → SpellsReply bytes v
unfolding reply_in
reply_takes bytes v fits e =
    bind_parts (in_words reply.from_head (head_at 2 bytes)) _ v e λ h read₁ e₁.
    guard_parts (not (eqb h.locators 0)) _ _ v e₁ λ count e₂.
    guard_parts (not (eqb (action_number h) 1)) _ _ v e₂ λ action e₃.
    bind_parts (in_words reply.from_eid (eid_at h.mask_len (drop 22 bytes))) _ v e₃ λ eid read₂ e₄.
    let f = held_ok (eqb eid.1 (length (drop 22 bytes))) reply_fault.Trailing (Ok (reply_of h.nonce h.ttl eid.0)) v e₄ in
    let begins = head_takes 2 bytes h fits (words_ok reply.from_head (head_at 2 bytes) h read₁) in
    let r = eid_takes h.mask_len (drop 22 bytes) eid (IsBytes-drop 22 bytes fits) (words_ok reply.from_eid (eid_at h.mask_len (drop 22 bytes)) eid read₂) in
    let made = reply_spelled bytes h eid.0 eid.1 begins (eqb-true _ _ (not-false _ count)) (eqb-true _ _ (not-false _ action)) r (eqb-true _ _ f.0) in
    subst (SpellsReply bytes) (ok_is {E = ReplyFault} (reply_of h.nonce h.ttl eid.0) v f.1) made

-- ---- what is spelled is read again

reply_read : (bytes : List ℕ) (h : Head) (p : List ℕ) (n : ℕ) → head_at 2 bytes ≡ Ok h → h.locators ≡ 0 → action_number h ≡ 1 → eid_at h.mask_len (drop 22 bytes) ≡ Ok (p, n) → n ≡ length (drop 22 bytes)
    → reply_in bytes ≡ Ok (reply_of h.nonce h.ttl p)
unfolding reply_in
reply_read bytes h p n b none act e all =
    let whole : eqb n (length (drop 22 bytes)) ≡ true = eq-eqb _ _ all in
    rw (b, none, act, e, whole) refl

reply_head_fits : (bytes : List ℕ) (v : NegativeReply) (s : SpellsReply bytes v) → IsHead (reply_head s.mask s.ignored.flags s.ignored.version v)
reply_head_fits bytes v s = record {
  nonce_fits = s.nonce_fits;
  ttl_fits = s.ttl_fits;
  locators_fit = omega arith;
  mask_fits = s.mask_fits;
  flags_fit = omega (arith, s.ignored.flags_fits);
  version_fits = s.ignored.version_fits;
}

pub reply_again : (bytes : List ℕ) (v : NegativeReply) → SpellsReply bytes v → reply_in bytes ≡ Ok v
reply_again bytes v s =
    let i = s.ignored in
    let h = reply_head s.mask i.flags i.version v in
    let front = head_bytes 2 i.reserved h in
    let begins = head_again 2 i.reserved h s.eid (omega arith) i.reserved_fits (reply_head_fits bytes v s) (eid_some s.mask s.eid v.prefix s.spells_eid) in
    let eid : eid_at s.mask s.eid ≡ Ok (v.prefix, length s.eid) = ap (eid_at s.mask) (sym (append-nil s.eid)) ∙ eid_again s.mask s.eid v.prefix [] s.spells_eid in
    ap reply_in s.whole ∙ reply_read (front ++ s.eid) h v.prefix (length s.eid) begins refl (omega (arith, i.flags_fits)) eid refl

pub reply_is_bytes : (bytes : List ℕ) (v : NegativeReply) → SpellsReply bytes v → IsBytes bytes
reply_is_bytes bytes v s =
    let head = head_is_bytes 2 s.ignored.reserved (reply_head s.mask s.ignored.flags s.ignored.version v) (reply_head_fits bytes v s) in
    subst IsBytes (sym s.whole) (head beside eid_is_bytes s.mask s.eid v.prefix s.spells_eid)

pub replies_are_read : AreRead IsBytes SpellsReply reply_in
replies_are_read = are_read reply_again reply_takes reply_is_bytes

pub written_reply_spells : (v : NegativeReply) → IsReply v → SpellsReply (written_reply v) v
written_reply_spells v h = record {
  ignored = record { reserved = 0; flags = 0; version = 0; reserved_fits = omega arith; flags_fits = omega arith; version_fits = omega arith };
  mask = written_mask_len v.prefix;
  eid = written_eid v.prefix;
  nonce_fits = h.nonce_fits;
  ttl_fits = h.ttl_fits;
  mask_fits = mask_len_fits v.prefix h.prefix_is;
  spells_eid = eid_spells v.prefix h.prefix_is;
  whole = refl;
}
