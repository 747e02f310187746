-- The chunks of `write_pages`: document 01, "A chunk is what `write_pages` hands one call of `program`".
use Rattle.std.specs.Prelude.{ℕ, zero, suc, ◌+◌, List, [], ◌∷◌, length, take, drop}
use Rattle.zedboard_bsp.specs.Limits.{recommended_program_page_size}

pub record Chunk : Type 0 where
  pub address : ℕ
  pub bytes : List ℕ

-- as many bytes a chunk as is recommended, the last one what is left; there are no more chunks than bytes
unfoldable pub chunks_in : ℕ → ℕ → List ℕ → List Chunk
chunks_in zero a bs = []
chunks_in (suc n) a [] = []
chunks_in (suc n) a (b ∷ bs) =
    record { address = a; bytes = take recommended_program_page_size (b ∷ bs) } ∷ chunks_in n (a + recommended_program_page_size) (drop recommended_program_page_size (b ∷ bs))

unfoldable pub chunks : ℕ → List ℕ → List Chunk
unfolding chunks_in
chunks a bs = chunks_in (length bs) a bs

-- a chunk of a list of chunks
pub data Among (c : Chunk) : List Chunk → Type 0 where
  here : {l : List Chunk} → Among c (c ∷ l)
  there : {d : Chunk} {l : List Chunk} → Among c l → Among c (d ∷ l)
