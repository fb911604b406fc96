-- The bytes of a Map-Notify from its parts, and its length beside that of the Map-Register.
use Rattle.std.proofs.Common.{◌≡◌, ℕ, ◌≤◌, List, ◌++◌, length, take, replicate, ap, ◌∙◌, arith, length-take, length-append}
use Rattle.ddt_map_register.specs.declared.register_head.RegisterHead.{RegisterHead}
use Rattle.ddt_map_register.specs.Authentic.{code_of}
use Rattle.ddt_map_register.specs.MapRegister.{head_bytes, id_bytes}
use Rattle.ddt_map_register.specs.MapNotify.{notify_head, notify_of, NotifiesAreShort}

-- the head, then the code, then the records
pub notify_is : (h : RegisterHead) (secret records front coded all : List ℕ) → front ≡ notify_head h
    → coded ≡ front ++ code_of h.algorithm h.code_len secret (front ++ replicate h.code_len 0 ++ records)
    → all ≡ coded ++ records → all ≡ notify_of h secret records
notify_is h secret records front coded all a b c =
    let with_code : List ℕ → List ℕ = λ f. f ++ code_of h.algorithm h.code_len secret (f ++ replicate h.code_len 0 ++ records) in
    c ∙ ap (λ (t : List ℕ). t ++ records) (b ∙ ap with_code a)

code_is_short : (n : ℕ) (code : List ℕ) → length (take n code) ≤ n
code_is_short n code = omega (arith, length-take n code)

pub notifies_are_short : NotifiesAreShort
notifies_are_short bytes secret m s =
    let code = code_of m.head.algorithm m.head.code_len secret (notify_head m.head ++ replicate m.head.code_len 0 ++ m.record_bytes) in
    let whole : length bytes ≡ length (head_bytes s.ignored m.head ++ m.code ++ m.record_bytes ++ id_bytes m.id) = ap length s.whole in
    let short : length code ≤ m.head.code_len = code_is_short m.head.code_len _ in
    omega (arith, whole, short, s.code_len_is, length-append code m.record_bytes, length-append (m.code ++ m.record_bytes) (id_bytes m.id), length-append m.code m.record_bytes)
