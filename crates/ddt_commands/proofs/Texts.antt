-- The texts of a list of borrowed words or lines.
use Rattle.std.proofs.Common.{ℕ, List, map, Bor}

abbrev pub texts : List (Bor (List ℕ)) → List (List ℕ)
texts words = map (λ t. t.now) words
