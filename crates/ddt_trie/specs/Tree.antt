-- A binary tree of prefixes: what it finds at a path, which entries it has, and how a call leaves it. A path is given
-- by its digits below a node, and each node by its depth: the number of digits above it.
use Rattle.std.specs.Prelude.{ℕ, ◌≡◌, ◌+◌, ◌<◌, ◌≤◌, IsTrue, Bool, true, false, ◌==◌, ◌&&◌, ◌||◌, if◌then◌else◌}
use Rattle.std.specs.Prelude.{List, [], ◌∷◌, ◌++◌, length, take, drop, Option, None, Some, is_some}
use Rattle.std.specs.Global.{Box}
use Rattle.std.specs.FinMap.{FinMap, contains_key}
use Rattle.ddt_trie.specs.declared.tree.TreeEntry.{TreeEntry}
use Rattle.ddt_trie.specs.declared.tree.Tree.{Tree}
use Rattle.ddt_trie.specs.declared.tree.Tree.TheVariants.{Empty, Leaf, Fork'}
use Rattle.ddt_trie.specs.declared.tree.Branch.{Branch}
use Rattle.ddt_trie.specs.declared.tree.Branch.TheVariants.{End, Zero, One}
use Rattle.ddt_trie.specs.PrefixMap.{path_cmp, IsKept}
use Rattle.ddt_path.specs.Covers.{covers, overlaps, is_same_path}
use Rattle.ddt_path.specs.Path.{is_prefix_path}
use Rattle.ddt_trie.specs.Entries.{map_of}

-- the digit to the left below a node at a depth: 0, or IPv4's at the depth of the family
abbrev pub low : ℕ → ℕ
low at = if at == 32 then 4 else 0

-- the digit to the right: 1, or IPv6's
abbrev pub high : ℕ → ℕ
high at = if at == 32 then 6 else 1

-- the value in an entry
abbrev pub value_in : {V : Type 0} → Option (Box (TreeEntry V)) → Option V
value_in None = None
value_in (Some b) = Some b.value.value

-- the value of a path
abbrev pub lookup : {V : Type 0} → ℕ → Tree V → List ℕ → Option V
lookup at Empty q = None
lookup at (Leaf b) q = if is_same_path q (drop at b.value.prefix) then Some b.value.value else None
lookup at (Fork' p entry zero one) [] = value_in entry
lookup at (Fork' p entry zero one) (d ∷ q) =
    if d == low at then lookup (at + 1) zero q else if d == high at then lookup (at + 1) one q else None

-- the entry of a node itself, by its value
abbrev pub here : {V : Type 0} → Option V → List (List ℕ × V)
here None = []
here (Some v) = ([], v) ∷ []

-- entries below a digit
abbrev pub under : {V : Type 0} → ℕ → List (List ℕ × V) → List (List ℕ × V)
under d [] = []
under d (e ∷ es) = (d ∷ e.0, e.1) ∷ under d es

-- the entries, by their paths below a node at a depth
abbrev pub entries : {V : Type 0} → ℕ → Tree V → List (List ℕ × V)
entries at Empty = []
entries at (Leaf b) = (drop at b.value.prefix, b.value.value) ∷ []
entries at (Fork' p entry zero one) =
    here (value_in entry) ++ (under (low at) (entries (at + 1) zero) ++ under (high at) (entries (at + 1) one))

-- the map of the entries
abbrev pub content_of : {V : Type 0} → Tree V → FinMap path_cmp V
content_of t = map_of (entries 0 t)

-- 1 if there is an entry, else 0
abbrev pub one_if : {V : Type 0} → Option V → ℕ
one_if None = 0
one_if (Some v) = 1

-- the number of entries
abbrev pub count : {V : Type 0} → Tree V → ℕ
count Empty = 0
count (Leaf b) = 1
count (Fork' p entry zero one) = one_if entry + (count zero + count one)

-- whether there is a leaf or a node
abbrev pub is_filled : {V : Type 0} → Tree V → Bool
is_filled Empty = false
is_filled (Leaf b) = true
is_filled (Fork' p entry zero one) = true

-- whether there is a leaf
abbrev pub is_leaf : {V : Type 0} → Tree V → Bool
is_leaf Empty = false
is_leaf (Leaf b) = true
is_leaf (Fork' p entry zero one) = false

-- whether there is a leaf, or a node that has an entry of its own or a child
abbrev pub is_held : {V : Type 0} → Tree V → Bool
is_held Empty = false
is_held (Leaf b) = true
is_held (Fork' p entry zero one) = is_some entry || (is_filled zero || is_filled one)

-- whether each node has an entry of its own or a child, and so at least one entry
abbrev pub is_pruned : {V : Type 0} → Tree V → Bool
is_pruned Empty = true
is_pruned (Leaf b) = true
is_pruned (Fork' p entry zero one) =
    (is_some entry || (is_filled zero || is_filled one)) && (is_pruned zero && is_pruned one)

-- whether each node below the first one has an entry of its own or a child
abbrev pub is_pruned_below : {V : Type 0} → Tree V → Bool
is_pruned_below Empty = true
is_pruned_below (Leaf b) = true
is_pruned_below (Fork' p entry zero one) = is_pruned zero && is_pruned one

-- the way one level further, to the left or to the right
abbrev pub onward : (ℕ → ℕ) → List ℕ → List ℕ
onward digit way = way ++ (digit (length way) ∷ [])

-- whether the prefix of each leaf begins with the digits on the way to it, which are given for the tree itself
abbrev pub is_rooted : {V : Type 0} → List ℕ → Tree V → Bool
is_rooted way Empty = true
is_rooted way (Leaf b) = covers way b.value.prefix
is_rooted way (Fork' p entry zero one) =
    is_rooted (onward low way) zero && is_rooted (onward high way) one

-- the digit of the path after its first ones is this
abbrev pub PathGoesOn : (ℕ → ℕ) → ℕ → List ℕ → Type 0
PathGoesOn digit at p =
    (drop at p ≡ digit at ∷ drop (at + 1) p) × (at < length p) × (at < 161)
    × (take (at + 1) p ≡ onward digit (take at p))

-- the branch that a path takes after its first digits
abbrev pub IsPathBranch : ℕ → List ℕ → Branch → Type 0
IsPathBranch at p End = drop at p ≡ []
IsPathBranch at p Zero = PathGoesOn low at p
IsPathBranch at p One = PathGoesOn high at p

-- the value of the path k is now o, and each other path has the value that it had
pub record IsSet {V : Type 0} (at : ℕ) (old new : Tree V) (k : List ℕ) (o : Option V) : Type 0 where
  pub found : (q : List ℕ) → lookup at new q ≡ (if is_same_path q k then o else lookup at old q)

-- each path has the value that it had
pub record HasSameEntries {V : Type 0} (old new : Tree V) : Type 0 where
  pub same : (at : ℕ) (q : List ℕ) → lookup at new q ≡ lookup at old q

-- the same for paths below this depth alone
pub record HasSameEntriesAt {V : Type 0} (at : ℕ) (old new : Tree V) : Type 0 where
  pub same : (q : List ℕ) → lookup at new q ≡ lookup at old q

-- if the prefixes of the leaves began with the digits on the way to them, they still do
pub record IsRootedAs {V : Type 0} (old new : Tree V) : Type 0 where
  pub still : (way : List ℕ) → IsTrue (is_rooted way old) → IsTrue (is_rooted way new)

-- what a filter by a test leaves
pub record HasKept {V : Type 0} (answers : V → Bool → Type 0) (old new : Tree V) : Type 0 where
  pub at : (depth : ℕ) (q : List ℕ) → IsKept answers (lookup depth old q) (lookup depth new q)

-- no path that y begins with has a value
pub record IsUncovered {V : Type 0} (at : ℕ) (t : Tree V) (y : List ℕ) : Type 0 where
  pub none : (q : List ℕ) → IsTrue (covers q y) → lookup at t q ≡ None

-- of the paths with a value that y begins with, the longest ends at the depth n and has the value v
pub record IsLongestBelow {V : Type 0} (at : ℕ) (t : Tree V) (y : List ℕ) (n : ℕ) (v : V) : Type 0 where
  pub front : List ℕ
  pub depth : n ≡ at + length front
  pub covers_it : IsTrue (covers front y)
  pub value : lookup at t front ≡ Some v
  pub longest : (q : List ℕ) (w : V) → lookup at t q ≡ Some w → IsTrue (covers q y) → length q ≤ length front

-- some path that has a value and ends at the depth c or below overlaps y
pub record IsMet {V : Type 0} (at : ℕ) (t : Tree V) (y : List ℕ) (c : ℕ) : Type 0 where
  pub path : List ℕ
  pub value : V
  pub found : lookup at t path ≡ Some value
  pub counts : c ≤ at + length path
  pub meets : IsTrue (overlaps path y)

-- The least specific hole around y ends at the depth n. The paths with a value that end at the depth c or below count.
-- The digits of y down to the depth n overlap none of these, nor does y itself. Fewer digits of y, down to a depth of
-- c - 1 or more, overlap one.
pub record IsHoleBelow {V : Type 0} (at : ℕ) (t : Tree V) (y : List ℕ) (c n : ℕ) : Type 0 where
  pub front : List ℕ
  pub depth : n ≡ at + length front
  pub covers_it : IsTrue (covers front y)
  pub uncovered : (q : List ℕ) → c ≤ at + length q → IsTrue (covers q y) → lookup at t q ≡ None
  pub nothing : (q : List ℕ) → c ≤ at + length q → IsTrue (covers front q) → lookup at t q ≡ None
  pub filled : (k : ℕ) → k < length front → c ≤ at + (k + 1) → IsMet at t (take k y) c

-- each key is the path of a prefix
pub record HasPaths {V : Type 0} (m : FinMap path_cmp V) : Type 0 where
  pub are_paths : (p : List ℕ) → IsTrue (contains_key m p) → IsTrue (is_prefix_path p)
