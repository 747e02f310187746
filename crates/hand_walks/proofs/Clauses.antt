-- A contract's named clauses stand side by side, one fact each: they are the one fact of all. It says nothing of the crate.
-- Assumes nothing.
use seplogic.Ra.Ura.{Ura}
use base.Logic.{ent, sep, emp, id⊢, via, mono∗, mono_r, fst∗, snd∗, emp∗}
use contract.Monad.{fact, fact_i, fact_use}

module _ {M : Type 1} (𝓤 : Ura M) where
  -- a caller learns all of them
  pub all_of_two : (φ ψ : Type 0) → ent 𝓤 (sep 𝓤 (fact 𝓤 φ) (fact 𝓤 ψ)) (fact 𝓤 (φ × ψ))
  all_of_two φ ψ =
      fact_use 𝓤 φ (fst∗ 𝓤 (fact 𝓤 φ) (fact 𝓤 ψ)) (λ x.
      fact_use 𝓤 ψ (snd∗ 𝓤 (fact 𝓤 φ) (fact 𝓤 ψ)) (λ y. fact_i 𝓤 (φ × ψ) _ (x, y)))

  pub all_of_three : (φ ψ χ : Type 0) → ent 𝓤 (sep 𝓤 (fact 𝓤 φ) (sep 𝓤 (fact 𝓤 ψ) (fact 𝓤 χ))) (fact 𝓤 (φ × (ψ × χ)))
  all_of_three φ ψ χ = via 𝓤 (sep 𝓤 (fact 𝓤 φ) (fact 𝓤 (ψ × χ))) (mono_r 𝓤 (fact 𝓤 φ) (all_of_two ψ χ)) (all_of_two φ (ψ × χ))

  -- a function shows each of them
  pub each_of_two : (φ ψ : Type 0) → ent 𝓤 (fact 𝓤 (φ × ψ)) (sep 𝓤 (fact 𝓤 φ) (fact 𝓤 ψ))
  each_of_two φ ψ =
      fact_use 𝓤 (φ × ψ) (id⊢ 𝓤 (fact 𝓤 (φ × ψ))) (λ x.
      via 𝓤 (sep 𝓤 (emp 𝓤) (fact 𝓤 (φ × ψ))) (emp∗ 𝓤 (fact 𝓤 (φ × ψ)))
      (mono∗ 𝓤 (fact_i 𝓤 φ (emp 𝓤) x.0) (fact_i 𝓤 ψ (fact 𝓤 (φ × ψ)) x.1)))

  pub each_of_three : (φ ψ χ : Type 0) → ent 𝓤 (fact 𝓤 (φ × (ψ × χ))) (sep 𝓤 (fact 𝓤 φ) (sep 𝓤 (fact 𝓤 ψ) (fact 𝓤 χ)))
  each_of_three φ ψ χ = via 𝓤 (sep 𝓤 (fact 𝓤 φ) (fact 𝓤 (ψ × χ))) (each_of_two φ (ψ × χ)) (mono_r 𝓤 (fact 𝓤 φ) (each_of_two ψ χ))

  pub each_of_four : (φ ψ χ ω : Type 0) → ent 𝓤 (fact 𝓤 (φ × (ψ × (χ × ω)))) (sep 𝓤 (fact 𝓤 φ) (sep 𝓤 (fact 𝓤 ψ) (sep 𝓤 (fact 𝓤 χ) (fact 𝓤 ω))))
  each_of_four φ ψ χ ω = via 𝓤 (sep 𝓤 (fact 𝓤 φ) (fact 𝓤 (ψ × (χ × ω)))) (each_of_two φ (ψ × (χ × ω))) (mono_r 𝓤 (fact 𝓤 φ) (each_of_three ψ χ ω))

  pub each_of_five : (φ ψ χ ω θ : Type 0) → ent 𝓤 (fact 𝓤 (φ × (ψ × (χ × (ω × θ))))) (sep 𝓤 (fact 𝓤 φ) (sep 𝓤 (fact 𝓤 ψ) (sep 𝓤 (fact 𝓤 χ) (sep 𝓤 (fact 𝓤 ω) (fact 𝓤 θ)))))
  each_of_five φ ψ χ ω θ = via 𝓤 (sep 𝓤 (fact 𝓤 φ) (fact 𝓤 (ψ × (χ × (ω × θ))))) (each_of_two φ (ψ × (χ × (ω × θ)))) (mono_r 𝓤 (fact 𝓤 φ) (each_of_four ψ χ ω θ))
