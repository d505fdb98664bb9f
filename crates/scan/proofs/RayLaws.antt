-- Rays joined end to end have their gates joined; gate g of a ray stands g places behind the gates of the rays before it. Assumes nothing.
use mathlib.Core.List.{List, [], ◌∷◌, ◌++◌, append_assoc, flat_map}
use mathlib.Core.Bool.{Bool, true}
use mathlib.Core.Path.{◌≡◌, refl, sym, subst⁻¹, ap, ap₂, ◌∙◌}
use Prim.Native.Nat.{ℕ, zero, suc, ◌+◌, ◌*◌, ◌-◌, ◌<◌}
use native.Mathlib.Nat.{add_assoc}
use native.Mathlib.Omega.{arith}
use lib.ListN.{length, get_or, length-append, get_or-append}
use lib.Seq.{get_or-append-add}
use Rattle.arithmetic.proofs.Places.{before_or_after, table_length, table_at, table_ext}
use Rattle.arithmetic.proofs.Test.{and_true}
use Rattle.arithmetic.specs.Places.{all_of}
use Rattle.scan.specs.Rays.{Ray, ray_gates, all_gates, gates_of_rays, regular_rays}

module _ (given : Ray → ℕ → ℕ) (first spacing : ℕ) where
  -- rays in groups
  pub gates_joined : (xs ys : List Ray) → all_gates given first spacing (xs ++ ys) ≡ all_gates given first spacing xs ++ all_gates given first spacing ys
  unfolding all_gates flat_map
  gates_joined [] ys = refl
  gates_joined (x ∷ xs) ys = rw (gates_joined xs ys, append_assoc)

  pub ray_length : (ray : Ray) → length (ray_gates given first spacing ray) ≡ ray.gates
  unfolding ray_gates
  ray_length ray = table_length _ ray.gates

  pub gates_length : (rays : List Ray) → length (all_gates given first spacing rays) ≡ gates_of_rays rays
  unfolding all_gates flat_map gates_of_rays
  gates_length [] = refl
  gates_length (ray ∷ rays) = rw (length-append, ray_length ray, gates_length rays)

  gates_none : length (all_gates given first spacing []) ≡ 0
  unfolding all_gates flat_map
  gates_none = refl

  gates_more : (ray : Ray) (rays : List Ray) → length (all_gates given first spacing (ray ∷ rays)) ≡ ray.gates + length (all_gates given first spacing rays)
  unfolding all_gates flat_map
  gates_more ray rays = rw (length-append, ray_length ray)

  -- the gates of the first ray, and those of the others behind them
  first_ray : (ray : Ray) (rays : List Ray) (g : ℕ) → g < ray.gates → get_or (all_gates given first spacing (ray ∷ rays)) g 0 ≡ given ray (first + g * spacing)
  unfolding all_gates flat_map ray_gates
  first_ray ray rays g h = get_or-append (ray_gates given first spacing ray) (all_gates given first spacing rays) 0 g (omega (arith, ray_length ray)) ∙ table_at _ ray.gates g h

  other_rays : (ray : Ray) (rays : List Ray) (k : ℕ) → get_or (all_gates given first spacing (ray ∷ rays)) (ray.gates + k) 0 ≡ get_or (all_gates given first spacing rays) k 0
  unfolding all_gates flat_map
  other_rays ray rays k =
      ap (λ (n : ℕ). get_or (all_gates given first spacing (ray ∷ rays)) (n + k) 0) (sym (ray_length ray))
      ∙ get_or-append-add (ray_gates given first spacing ray) (all_gates given first spacing rays) k 0

  -- gate g of a ray stands behind the gates of the rays before it
  pub gate_of_ray : (before : List Ray) (ray : Ray) (behind : List Ray) (g : ℕ) → g < ray.gates → get_or (all_gates given first spacing (before ++ ray ∷ behind)) (gates_of_rays before + g) 0 ≡ given ray (first + g * spacing)
  unfolding gates_of_rays
  gate_of_ray [] ray behind g h = ap (λ (k : ℕ). get_or (all_gates given first spacing (ray ∷ behind)) k 0) (omega arith) ∙ first_ray ray behind g h
  gate_of_ray (x ∷ before) ray behind g h = rw add_assoc (other_rays x (before ++ ray ∷ behind) (gates_of_rays before + g) ∙ gate_of_ray before ray behind g h)

  -- gates are numbered ray by ray, gate g of ray i has its centre at first + g x spacing
  pub gate_at : (gates : ℕ) (azimuths : List ℕ) (i g : ℕ) → i < length azimuths → g < gates → get_or (all_gates given first spacing (regular_rays gates azimuths)) (i * gates + g) 0 ≡ given (record { azimuth = get_or azimuths i 0; gates = gates }) (first + g * spacing)
  unfolding regular_rays
  gate_at gates [] i g h k = absurd (omega arith)
  gate_at gates (azimuth ∷ azimuths) zero g h k = ap (λ (n : ℕ). get_or (all_gates given first spacing (regular_rays gates (azimuth ∷ azimuths))) n 0) (omega arith) ∙ first_ray _ (regular_rays gates azimuths) g k
  gate_at gates (azimuth ∷ azimuths) (suc i) g h k =
      ap (λ (n : ℕ). get_or (all_gates given first spacing (regular_rays gates (azimuth ∷ azimuths))) n 0) (omega arith)
      ∙ other_rays (record { azimuth = azimuth; gates = gates }) (regular_rays gates azimuths) (i * gates + g) ∙ gate_at gates azimuths i g (omega arith) k

-- two ways to say what a gate gives that agree at each gate of good azimuths
pub gates_same : (given other : Ray → ℕ → ℕ) (first spacing gates : ℕ) (good : ℕ → Bool) (azimuths : List ℕ) → all_of good azimuths ≡ true → ((azimuth g : ℕ) → good azimuth ≡ true → g < gates → given (record { azimuth = azimuth; gates = gates }) (first + g * spacing) ≡ other (record { azimuth = azimuth; gates = gates }) (first + g * spacing)) → all_gates given first spacing (regular_rays gates azimuths) ≡ all_gates other first spacing (regular_rays gates azimuths)
unfolding all_gates flat_map ray_gates regular_rays all_of
gates_same given other first spacing gates good [] a e = refl
gates_same given other first spacing gates good (azimuth ∷ azimuths) a e =
    let both = and_true (good azimuth) (all_of good azimuths) a in
    ap₂ (λ (l m : List ℕ). l ++ m) (table_ext _ _ gates (λ g h. e azimuth g both.0 h)) (gates_same given other first spacing gates good azimuths both.1 e)

pub regular_gates : (gates : ℕ) (azimuths : List ℕ) → gates_of_rays (regular_rays gates azimuths) ≡ length azimuths * gates
unfolding gates_of_rays regular_rays
regular_gates gates [] = omega arith
regular_gates gates (azimuth ∷ azimuths) = omega (arith, regular_gates gates azimuths)

-- what holds of what any gate gives holds at each place
pub gates_each : (P : ℕ → Type 0) (given : Ray → ℕ → ℕ) (first spacing : ℕ) → ((ray : Ray) (range : ℕ) → P (given ray range)) → (rays : List Ray) (k : ℕ) → k < length (all_gates given first spacing rays) → P (get_or (all_gates given first spacing rays) k 0)
gates_each P given first spacing p [] k h = absurd (omega (arith, gates_none given first spacing))
gates_each P given first spacing p (ray ∷ rays) k h =
    before_or_after k ray.gates
    (λ i. subst⁻¹ P (first_ray given first spacing ray rays k i) (p ray _))
    (λ i. let split : k ≡ ray.gates + (k - ray.gates) = omega arith in
    subst⁻¹ P (ap (λ (n : ℕ). get_or (all_gates given first spacing (ray ∷ rays)) n 0) split ∙ other_rays given first spacing ray rays (k - ray.gates))
    (gates_each P given first spacing p rays (k - ray.gates) (omega (arith, h, gates_more given first spacing ray rays))))
