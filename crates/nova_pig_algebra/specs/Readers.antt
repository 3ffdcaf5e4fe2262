-- Which nodes are read, and by which node last.
use Rattle.std.specs.Prelude.{◌≡◌, ℕ, suc, ◌<◌, ◌≤◌, nat_lt, ◌==◌, true, ◌&&◌, if◌then◌else◌, List, [], ◌∷◌, replicate, slice_get, slice_set, slice_index_or, Option, Some, None}
use Rattle.nova_pig_algebra.specs.declared.node.Node.{Node}
use Rattle.nova_pig_algebra.specs.declared.node.Node.TheVariants as node
use Rattle.nova_pig_algebra.specs.Keys.{is_one_of}

-- the node that a FOREACH reads: that of the GROUP, where it is over one
abbrev pub read_by : ℕ → Option Node → ℕ
read_by from (Some (node.Group source columns)) = source
read_by from _ = from

-- the nodes that a node reads
abbrev pub read : List Node → Node → List ℕ
read nodes (node.Load input) = []
read nodes (node.Filter from cond) = from ∷ []
read nodes (node.Foreach from items) = read_by from (slice_get nodes from) ∷ []
read nodes (node.Group from columns) = []
read nodes (node.Join left left_by right right_by) = left ∷ right ∷ []
read nodes (node.Union arms) = arms
read nodes (node.Distinct from) = from ∷ []

-- what the node with this number reads
abbrev pub read_at : List Node → Option Node → List ℕ
read_at nodes None = []
read_at nodes (Some n) = read nodes n

-- the number of a node's last reader and one more, or 0 where nothing reads it
abbrev pub last_at : List ℕ → ℕ → ℕ
last_at last k = slice_index_or last k 0

-- what the nodes from number n on read is read last by none before them, where they are read themselves
abbrev pub ClosedFrom : List Node → ℕ → List ℕ → Type 0
ClosedFrom nodes n last = (i k : ℕ) → n ≤ i → 0 < last_at last i → is_one_of k (read_at nodes (slice_get nodes i)) ≡ true → k < i → i < last_at last k

-- the node marked as read by this reader, unless it is marked already
abbrev pub marked : ℕ → List ℕ → ℕ → List ℕ
marked reader last k = if nat_lt k reader && (last_at last k == 0) then slice_set last k (suc reader) else last

-- each of these marked
abbrev pub all_marked : ℕ → List ℕ → List ℕ → List ℕ
all_marked reader last [] = last
all_marked reader last (k ∷ ks) = all_marked reader (marked reader last k) ks

-- that the answer reads the stored node after all nodes, where it is one of them
abbrev pub answer_reads : ℕ → ℕ → List ℕ
answer_reads count stored = if nat_lt stored count then slice_set (replicate count 0) stored (suc count) else replicate count 0
