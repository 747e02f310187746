-- Digests of words: 65599 times what came before, and the word, in 32 bits.
use Rattle.std.specs.Prelude.{ℕ, List, ◌+◌, ◌*◌, ◌%◌, ◌^◌}
use Rattle.std.specs.List.{fold}

abbrev pub mixed : ℕ → ℕ → ℕ
mixed digest word = (digest * 65599 + word) % 2 ^ 32

abbrev pub digest_of : List ℕ → ℕ
digest_of words = fold mixed 1 words
