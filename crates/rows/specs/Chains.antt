-- Numbers in chains by a key: from its newest number a chain goes down through all that have the key.
use Rattle.std.specs.Prelude.{◌≡◌, ℕ, zero, suc, ◌<◌, cond, List, length, map, Option, Some, None, ◌==◌, slice_index, slice_index_or}
use Rattle.rows.specs.declared.link.Link.{Link}

-- the keys of the numbers from 0 on
abbrev pub keys : List Link → List ℕ
keys links = map (λ l. l.key) links

-- the newest number below n with the key
abbrev pub newest : (keys : List ℕ) (n key : ℕ) → Option ℕ
newest keys zero key = None
newest keys (suc n) key = cond (slice_index keys n == key) (Some n) (newest keys n key)

-- each chain has its newest number
abbrev pub Heads : (links : List Link) (heads : List (Option ℕ)) → Type 0
Heads links heads = (key : ℕ) → key < 256 → slice_index_or heads key None ≡ newest (keys links) (length links) key

-- each number has the one before it in its chain
abbrev pub Links : List Link → Type 0
Links links = (i : ℕ) (d : Link) → i < length links → (slice_index_or links i d).before ≡ newest (keys links) i (slice_index (keys links) i)
