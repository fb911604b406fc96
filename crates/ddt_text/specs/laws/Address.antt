-- An address is read where a text spells it, and nowhere else.
use Rattle.std.proofs.Common.{◌≡◌, ℕ, ◌<◌, Bool, true, false, List, [], ◌∷◌, ◌++◌, length, decimal, Option, Some, None, Result, Ok, Err, refl, sym, ap, ◌∙◌, subst, arith, inl, inr, true≢false, eqb-true, append-nil, append_assoc, lit≤}
use Rattle.std.specs.Prelude.{◌==◌, codes}
use Rattle.std.specs.Int.{w32, w128, from_be_bytes}
use Rattle.std.specs.List.{list_any}
use Rattle.std.proofs.lemmas.Option.{same_Some, none-some}
use Rattle.std.specs.Result.{result_ok}
use Rattle.std.specs.declared.net.ipv4_addr.Ipv4Addr.{Ipv4Addr}
use Rattle.std.specs.declared.net.ipv6_addr.Ipv6Addr.{Ipv6Addr}
use Rattle.std.specs.Net.Addr.{octets_of, ipv4_octets, ipv4_bits, ipv6_segments, ipv6_bits}
use Rattle.std.specs.Net.Text.{dotted_text}
use Rattle.std.specs.Net.Grammar.{IsDotted, IsGroupsAfter, IsColonHex, Parses, IsIpv4Text, IsIpv6Text}
use Rattle.std.specs.Net.Reader.{Read, read_ipv4, read_ipv6, whole_value}
use Rattle.std.proofs.NetLemmas.Options.{cond_some, and_then_some, map_some}
use Rattle.std.proofs.NetLemmas.Ipv4.{read_ipv4_complete, read_ipv4_sound}
use Rattle.std.proofs.NetLemmas.Ipv6.{read_ipv6_complete, read_ipv6_sound, EndsGroups-nil}
use Rattle.ddt_path.specs.declared.locator.Locator.{Locator}
use Rattle.ddt_path.specs.declared.locator.Locator.TheVariants.{V4, V6}
use Rattle.ddt_text.specs.Grammar.{SpellsGroups, SpellsLocator}
use Rattle.ddt_text.specs.FirstFault.{address_in}
use Rattle.ddt_text.specs.laws.Byte.{IsPlain, ArePlain, plain-append, plain-lower, plain-hex, plain-decimal, Lacks, lacks_low, lacks_right, has_byte}

whole-sound : {A : Type 0} (r : Read A) (v : A) → whole_value r ≡ Some v → r ≡ Some (v, [])
whole-sound r v e = and_then_some _ r v e λ p is kept.
    let (test, value) = cond_some _ _ _ kept in
    is ∙ ap Some (pair p v (eqb-true (length p.1) 0 test) value)
  where
    pair : {A : Type 0} (p : A × List ℕ) (v : A) → length p.1 ≡ 0 → p.0 ≡ v → p ≡ (v, [])
    pair (a, []) v none e = ap (λ x. (x, [])) e
    pair (a, b ∷ bs) v none e = absurd (omega arith)

-- IPv4
dotted_parts : (a b c d : ℕ) → dotted_text a b c d ≡ decimal a ++ 46 ∷ (decimal b ++ 46 ∷ (decimal c ++ 46 ∷ decimal d))
dotted_parts a b c d = simp append_assoc

pub dotted_has_dot : (text octets : List ℕ) → IsDotted text octets → list_any (λ b. b == 46) text ≡ true
dotted_has_dot text octets h = rw (h.spelled, dotted_parts h.a h.b h.c h.d) (has_byte 46 (decimal h.a) _)

plain-next : (n : ℕ) (rest : List ℕ) → n < 256 → ArePlain 46 rest → ArePlain 46 (decimal n ++ 46 ∷ rest)
plain-next n rest fits h =
    plain-append 46 (decimal n) (46 ∷ rest) (plain-lower 46 48 (decimal n) (omega arith) (plain-decimal n (omega arith)))
    ((omega arith, omega arith, omega arith, omega arith), h)

pub plain-dotted : (text octets : List ℕ) → IsDotted text octets → ArePlain 46 text
plain-dotted text octets h =
    let last = plain-lower 46 48 (decimal h.d) (omega arith) (plain-decimal h.d (omega (arith, h.fit.3))) in
    rw (h.spelled, dotted_parts h.a h.b h.c h.d)
    (plain-next h.a _ h.fit.0 (plain-next h.b _ h.fit.1 (plain-next h.c _ h.fit.2 last)))

ipv4-sound : (text octets : List ℕ) → whole_value (read_ipv4 text) ≡ Some octets → IsDotted text octets
ipv4-sound text octets e =
    let (front, split, dotted) = read_ipv4_sound text octets [] (whole-sound (read_ipv4 text) octets e) in
    subst (λ t. IsDotted t octets) (sym (split ∙ append-nil front)) dotted

pub ipv4-whole : (text octets rest : List ℕ) → read_ipv4 text ≡ Some (octets, rest) → length rest < 1 → IsDotted text octets
ipv4-whole text octets [] e none = ipv4-sound text octets (rw e)
ipv4-whole text octets (b ∷ bs) e none = absurd (omega arith)

ipv4-complete : (text octets : List ℕ) → IsDotted text octets → whole_value (read_ipv4 text) ≡ Some octets
ipv4-complete text octets h =
    let read : read_ipv4 text ≡ Some (octets, []) = ap read_ipv4 (sym (append-nil text)) ∙ read_ipv4_complete text octets [] h (lit≤ tt) in
    rw read

-- IPv6
groups-wider : (lead text groups : List ℕ) → IsGroupsAfter false lead text groups → IsGroupsAfter true lead text groups
groups-wider lead text [] h = h
groups-wider lead text (g ∷ groups) (inl h) = inl (h.0, h.1, h.2, h.3, groups-wider (codes ":") h.1 groups h.4)
groups-wider lead text (g ∷ groups) (inr h) = inr (h.0, h.1, refl, h.3, h.4, h.5)

groups-narrower : (lead text groups : List ℕ) → Lacks 46 text → IsGroupsAfter true lead text groups → IsGroupsAfter false lead text groups
groups-narrower lead text [] none h = h
groups-narrower lead text (g ∷ groups) none (inl h) =
    let rest : Lacks 46 h.1 = lacks_right 46 (lead ++ h.0) h.1 (ap (list_any (λ b. b == 46)) (sym h.2) ∙ none) in
    inl (h.0, h.1, h.2, h.3, groups-narrower (codes ":") h.1 groups rest h.4)
groups-narrower lead text (g ∷ groups) none (inr h) =
    let last : Lacks 46 h.0 = lacks_right 46 lead h.0 (ap (list_any (λ b. b == 46)) (sym h.3) ∙ none) in
    absurd (true≢false (sym (dotted_has_dot h.0 h.1 h.4) ∙ last))

colon : IsPlain 48 58
colon = (omega arith, omega arith, omega arith, omega arith)

plain-groups : (lead text groups : List ℕ) → ArePlain 48 lead → IsGroupsAfter false lead text groups → ArePlain 48 text
plain-groups lead text [] led h = rw h tt
plain-groups lead text (g ∷ groups) led (inl h) =
    let later = plain-groups (58 ∷ []) h.1 groups (colon, tt) h.4 in
    rw h.2 (plain-append 48 (lead ++ h.0) h.1 (plain-append 48 lead h.0 led (plain-hex h.0 h.3.0.0.1)) later)
plain-groups lead text (g ∷ groups) led (inr h) = absurd (true≢false (sym h.2))

pub colon_hex-wider : (text groups : List ℕ) → SpellsGroups text groups → IsColonHex text groups
colon_hex-wider text groups (inl h) = inl (groups-wider [] text groups h.0, h.1)
colon_hex-wider text groups (inr h) = inr (record {
  head_text = h.front_text;
  tail_text = h.back_text;
  head = h.front;
  tail = h.back;
  spelled = h.spelled;
  head_groups = h.front_groups;
  tail_groups = groups-wider [] h.back_text h.back h.back_groups;
  room = h.room;
  value = h.value;
})

pub colon_hex-narrower : (text groups : List ℕ) → Lacks 46 text → IsColonHex text groups → SpellsGroups text groups
colon_hex-narrower text groups none (inl h) = inl (groups-narrower [] text groups none h.0, h.1)
colon_hex-narrower text groups none (inr h) = inr (record {
  front_text = h.head_text;
  back_text = h.tail_text;
  front = h.head;
  back = h.tail;
  spelled = h.spelled;
  front_groups = h.head_groups;
  back_groups = groups-narrower [] h.tail_text h.tail (lacks_right 46 (h.head_text ++ codes "::") h.tail_text (ap (list_any (λ b. b == 46)) (sym h.spelled) ∙ none)) h.tail_groups;
  room = h.room;
  value = h.value;
})

pub plain-colon_hex : (text groups : List ℕ) → SpellsGroups text groups → ArePlain 48 text
plain-colon_hex text groups (inl h) = plain-groups [] text groups tt h.0
plain-colon_hex text groups (inr h) =
    let front = plain-groups [] h.front_text h.front tt h.front_groups in
    let back = plain-groups [] h.back_text h.back tt h.back_groups in
    rw h.spelled (plain-append 48 (h.front_text ++ (58 ∷ 58 ∷ [])) h.back_text (plain-append 48 h.front_text (58 ∷ 58 ∷ []) front (colon, (colon, tt))) back)

ipv6-sound : (text groups : List ℕ) → Lacks 46 text → whole_value (read_ipv6 text) ≡ Some groups → SpellsGroups text groups
ipv6-sound text groups none e =
    let (front, split, h) = read_ipv6_sound text groups [] (whole-sound (read_ipv6 text) groups e) in
    colon_hex-narrower text groups none (subst (λ t. IsColonHex t groups) (sym (split ∙ append-nil front)) h)

ipv6-complete : (text groups : List ℕ) → SpellsGroups text groups → whole_value (read_ipv6 text) ≡ Some groups
ipv6-complete text groups h =
    let read : read_ipv6 text ≡ Some (groups, []) = ap read_ipv6 (sym (append-nil text)) ∙ read_ipv6_complete text groups [] (colon_hex-wider text groups h) EndsGroups-nil in
    rw read

-- either
pub plain-locator : (text : List ℕ) (a : Locator) → SpellsLocator text a → ArePlain 46 text
plain-locator text (V4 n) h = plain-dotted text h.0 h.1
plain-locator text (V6 n) h = plain-lower 46 48 text (omega arith) (plain-colon_hex text h.0 h.1)

pub address_in-complete : (text : List ℕ) (a : Locator) → SpellsLocator text a → address_in text ≡ Some a
address_in-complete text (V4 n) h = rw (dotted_has_dot text h.0 h.1, ipv4-complete text h.0 h.1, ← h.2)
address_in-complete text (V6 n) h = rw (lacks_low 46 48 text (omega arith) (plain-colon_hex text h.0 h.1), ipv6-complete text h.0 h.1, ← h.2)

pub address_in-sound : (text : List ℕ) (a : Locator) → address_in text ≡ Some a → SpellsLocator text a
address_in-sound text a e = go (list_any (λ b. b == 46) text) refl
  where
    go : (dot : Bool) → list_any (λ b. b == 46) text ≡ dot → SpellsLocator text a
    go true is =
        map_some (λ octets. V4 (from_be_bytes w32 octets)) (whole_value (read_ipv4 text)) a (rw is at e) λ octets read made.
        subst (SpellsLocator text) made (octets, ipv4-sound text octets read, refl)
    go false is =
        map_some (λ groups. V6 (from_be_bytes w128 (octets_of groups))) (whole_value (read_ipv6 text)) a (rw is at e) λ groups read made.
        subst (SpellsLocator text) made (groups, ipv6-sound text groups is read, refl)

-- what std's parsers tell of a text
pub read_ipv4-some : (text : List ℕ) (a : Ipv4Addr) (n : ℕ) → n ≡ ipv4_bits a → IsIpv4Text text a → Some (V4 n) ≡ address_in text
unfolding ipv4_bits
read_ipv4-some text a n is h = sym (address_in-complete text (V4 n) (ipv4_octets a, h, is))

pub read_ipv6-some : (text : List ℕ) (a : Ipv6Addr) (n : ℕ) → Lacks 46 text → n ≡ ipv6_bits a → IsIpv6Text text a → Some (V6 n) ≡ address_in text
unfolding ipv6_bits
read_ipv6-some text a n none is h = sym (address_in-complete text (V6 n) (ipv6_segments a, colon_hex-narrower text (ipv6_segments a) none h, is))

none_spelled : (text : List ℕ) → ((a : Locator) → ¬ (SpellsLocator text a)) → None ≡ address_in text
none_spelled text unspelled = go (address_in text) refl
  where
    go : (o : Option Locator) → address_in text ≡ o → None ≡ address_in text
    go None e = sym e
    go (Some a) e = absurd (unspelled a (address_in-sound text a e))

pub read_ipv4-none : (text : List ℕ) → list_any (λ b. b == 46) text ≡ true → ((a : Ipv4Addr) → ¬ (IsIpv4Text text a)) → None ≡ address_in text
read_ipv4-none text dot none = none_spelled text no
  where
    no : (a : Locator) → ¬ (SpellsLocator text a)
    no (V4 n) h = none (record { octets = h.0 }) h.1
    no (V6 n) h = true≢false (sym dot ∙ lacks_low 46 48 text (omega arith) (plain-colon_hex text h.0 h.1))

pub read_ipv6-none : (text : List ℕ) → Lacks 46 text → ((a : Ipv6Addr) → ¬ (IsIpv6Text text a)) → None ≡ address_in text
read_ipv6-none text dot none = none_spelled text no
  where
    no : (a : Locator) → ¬ (SpellsLocator text a)
    no (V4 n) h = true≢false (sym (dotted_has_dot text h.0 h.1) ∙ dot)
    no (V6 n) h = none (record { segments = h.0 }) (colon_hex-wider text h.0 h.1)

pub parsed : {A E : Type 0} (Spells : List ℕ → A → Type 0) (text : List ℕ) (r : Result A E) (a : A) → Parses Spells text r → Some a ≡ result_ok r → Spells text a
parsed Spells text (Ok b) a h e = subst (Spells text) (sym (same_Some a b e)) h
parsed Spells text (Err b) a h e = absurd (none-some a (sym e))

pub not_parsed : {A E : Type 0} (Spells : List ℕ → A → Type 0) (text : List ℕ) (r : Result A E) → Parses Spells text r → None ≡ result_ok r → (a : A) → ¬ (Spells text a)
not_parsed Spells text (Ok b) h e = absurd (none-some b e)
not_parsed Spells text (Err b) h e = h
