-- Four stores one after the other are the store of a reply, and that is what taking a reply of a read does. Assumes nothing.
use Rattle.std.proofs.Common.{◌≡◌, ℕ, ◌+◌, ◌-◌, ◌/◌, ◌%◌, ◌≤◌, Bool, true, List, sym, ◌∙◌, le-leb}
use Rattle.qspi_transfer.specs.declared.Wire.{Wire}
use Rattle.qspi_script.specs.declared.Job.{Job}
use Rattle.qspi_script.specs.declared.Place.{Place}
use Rattle.qspi_operation.specs.Store.{store_byte, store_reply, is_taking, is_reading, skipped, stored}

pub four : (s : List ℕ) {s₁ s₂ s₃ s₄ : List ℕ} (p : Place) (d i w : ℕ) {b₀ b₁ b₂ b₃ : ℕ} → b₀ ≡ w % 256 → b₁ ≡ w / 256 % 256 → b₂ ≡ w / 65536 % 256 → b₃ ≡ w / 16777216 % 256
    → s₁ ≡ store_byte s p d i b₀ → s₂ ≡ store_byte s₁ p d (i + 1) b₁ → s₃ ≡ store_byte s₂ p d (i + 2) b₂ → s₄ ≡ store_byte s₃ p d (i + 3) b₃ → s₄ ≡ store_reply s p d i w
four s p d i w h₀ h₁ h₂ h₃ e₁ e₂ e₃ e₄ = rw (e₄, e₃, e₂, e₁, h₀, h₁, h₂, h₃)

pub taken_reply : (job : Job) (p : Place) (w : Wire) (v : ℕ) (s : List ℕ) {t r : Bool} {d : ℕ} {s₁ : List ℕ} → t ≡ is_taking w.phase → t ≡ true → r ≡ is_reading p.stage → r ≡ true → 4 ≤ w.read_index
    → d ≡ skipped job.reading.dummy → s₁ ≡ store_reply s p d (w.read_index - 4) v → s₁ ≡ stored job p w v s
taken_reply job p w v s h₁ e₁ h₂ e₂ l hd hs =
    let f₁ : is_taking w.phase ≡ true = sym h₁ ∙ e₁ in
    let f₂ : is_reading p.stage ≡ true = sym h₂ ∙ e₂ in
    rw (f₁, f₂, le-leb 4 w.read_index l, ← hd) hs
