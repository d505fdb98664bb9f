-- The steps of a position in 64-bit words: a product of two numbers below 2^31 fits, and so does the sum or the difference of two such
-- products; each quotient by Q is the definition's. Assumes nothing.
use mathlib.Core.Path.{◌≡◌, ap, ◌∙◌}
use Prim.Native.Nat.{ℕ}
use lib.Dec.{T, leb, leb→le}
use lib.IntN.{ℤ, ◌+ℤ◌, ◌-ℤ◌, ◌*ℤ◌}
use mir.Facts.{to_z-of_z}
use mir.Syntax.{w64}
use mir.Val.{SFits, to_z, of_z}
use Rattle.arithmetic.specs.Floor.{◌÷◌}
use Rattle.arithmetic.specs.Magnitude.{Magnitude}
use Rattle.arithmetic.proofs.Machine.{fits64}
use Rattle.arithmetic.proofs.Magnitude.{magnitude_weaken, magnitude_product, magnitude_sum, magnitude_difference}
use Rattle.sine_series.specs.Tables.{Q}
use Rattle.projection.specs.declared.arc.ArcTerms.{ArcTerms}
use Rattle.projection.specs.declared.position.RayTerms.{RayTerms}
use Rattle.projection.specs.declared.position.SiteTerms.{SiteTerms}
use Rattle.projection.specs.Position.{w, e, n, m, u, v}
use Rattle.projection.specs.Terms.{Sound}
use Rattle.projection.proofs.PositionBounds.{w_limit, e_limit, m_limit}

abbrev word : ℤ → ℤ
word z = to_z w64 (of_z w64 z)

-- a bound below 2^31
narrow : {z : ℤ} {n : ℕ} → Magnitude z n → T (leb n 2147483647) → Magnitude z 2147483647
narrow {z} {n} a t = magnitude_weaken a (leb→le n 2147483647 t)

module _ {x y : ℤ} (a : Magnitude x 2147483647) (b : Magnitude y 2147483647) where
  pub product_fits : SFits w64 (word x *ℤ word y)
  product_fits = simp (to_z-of_z, fits64 a tt, fits64 b tt) (fits64 (magnitude_product a b) tt)

  product_word : word (word x *ℤ word y) ≡ x *ℤ y
  product_word = simp (to_z-of_z, fits64 a tt, fits64 b tt, fits64 (magnitude_product a b) tt)

module _ {x y z t : ℤ} (a : Magnitude x 2147483647) (b : Magnitude y 2147483647) (c : Magnitude z 2147483647) (d : Magnitude t 2147483647) where
  pub sum_fits : SFits w64 (word (word x *ℤ word y) +ℤ word (word z *ℤ word t))
  sum_fits = rw (product_word a b, product_word c d) (fits64 (magnitude_sum (magnitude_product a b) (magnitude_product c d)) tt)

  sum_word : word (word (word x *ℤ word y) +ℤ word (word z *ℤ word t)) ≡ x *ℤ y +ℤ z *ℤ t
  sum_word =
      rw (product_word a b, product_word c d) (to_z-of_z (fits64 (magnitude_sum (magnitude_product a b) (magnitude_product c d)) tt))

  pub difference_fits : SFits w64 (word (word x *ℤ word y) -ℤ word (word z *ℤ word t))
  difference_fits = rw (product_word a b, product_word c d) (fits64 (magnitude_difference (magnitude_product a b) (magnitude_product c d)) tt)

  difference_word : word (word (word x *ℤ word y) -ℤ word (word z *ℤ word t)) ≡ x *ℤ y -ℤ z *ℤ t
  difference_word =
      rw (product_word a b, product_word c d) (to_z-of_z (fits64 (magnitude_difference (magnitude_product a b) (magnitude_product c d)) tt))

module _ {s : SiteTerms} {a : RayTerms} {c : ArcTerms} {k : ℤ} (h : Sound s a c k) where
  pub sp_below : Magnitude s.sp 2147483647
  sp_below = narrow h.site.sp_limit tt

  pub cp_below : Magnitude s.cp 2147483647
  cp_below = narrow h.site.cp_limit tt

  pub sl_below : Magnitude s.sl 2147483647
  sl_below = narrow h.site.sl_limit tt

  pub cl_below : Magnitude s.cl 2147483647
  cl_below = narrow h.site.cl_limit tt

  pub sa_below : Magnitude a.sa 2147483647
  sa_below = narrow h.ray.sa_limit tt

  pub ca_below : Magnitude a.ca 2147483647
  ca_below = narrow h.ray.ca_limit tt

  pub sd_below : Magnitude c.sd 2147483647
  sd_below = narrow h.sd_limit tt

  pub cd_below : Magnitude c.cd 2147483647
  cd_below = narrow h.cd_limit tt

  pub w_below : Magnitude (w s a c) 2147483647
  w_below = narrow (w_limit s a c k h) tt

  pub e_below : Magnitude (e s a c) 2147483647
  e_below = narrow (e_limit s a c k h) tt

  pub m_below : Magnitude (m s a c) 2147483647
  m_below = narrow (m_limit s a c k h) tt

  -- ---- what each quotient is, line by line of document 01

  pub w_is : {r : ℤ} → r ≡ word (word c.sd *ℤ word a.ca) ÷ Q → r ≡ w s a c
  unfolding w
  w_is told = told ∙ ap (λ (z : ℤ). z ÷ Q) (product_word sd_below ca_below)

  pub e_is : {r : ℤ} → r ≡ word (word c.sd *ℤ word a.sa) ÷ Q → r ≡ e s a c
  unfolding e
  e_is told = told ∙ ap (λ (z : ℤ). z ÷ Q) (product_word sd_below sa_below)

  module _ {x : ℤ} (is : x ≡ w s a c) where
    pub n_is : {r : ℤ} → r ≡ word (word (word s.sp *ℤ word c.cd) +ℤ word (word s.cp *ℤ word x)) ÷ Q → r ≡ n s a c
    unfolding n
    n_is told = told ∙ ap (λ (z : ℤ). z ÷ Q) (rw is (sum_word sp_below cd_below cp_below w_below))

    pub m_is : {r : ℤ} → r ≡ word (word (word s.cp *ℤ word c.cd) -ℤ word (word s.sp *ℤ word x)) ÷ Q → r ≡ m s a c
    unfolding m
    m_is told = told ∙ ap (λ (z : ℤ). z ÷ Q) (rw is (difference_word cp_below cd_below sp_below w_below))

  module _ {x y : ℤ} (e-is : x ≡ e s a c) (m-is : y ≡ m s a c) where
    pub u_is : {r : ℤ} → r ≡ word (word (word x *ℤ word s.cl) +ℤ word (word y *ℤ word s.sl)) ÷ Q → r ≡ u s a c
    unfolding u
    u_is told = told ∙ ap (λ (z : ℤ). z ÷ Q) (rw (e-is, m-is) (sum_word e_below cl_below m_below sl_below))

    pub v_is : {r : ℤ} → r ≡ word (word (word y *ℤ word s.cl) -ℤ word (word x *ℤ word s.sl)) ÷ Q → r ≡ v s a c
    unfolding v
    v_is told = told ∙ ap (λ (z : ℤ). z ÷ Q) (rw (e-is, m-is) (difference_word m_below cl_below e_below sl_below))
