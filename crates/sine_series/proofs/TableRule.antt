-- The rule of the three tables, at every entry: each definition's whole table is tested once, by computing. Assumes nothing.
use mathlib.Core.Bool.{Bool, cond}
use Prim.Native.Nat.{ℕ, ◌*◌, ◌<◌}
use lib.Dec.{T, leb}
use Rattle.arithmetic.specs.Nearness.{Nearest}
use Rattle.arithmetic.proofs.Nearest.{nearest_rule}
use Rattle.arithmetic.proofs.Table.{all_from, at_each}
use Rattle.sine_series.specs.Series.{sine_series, cosine_series}
use Rattle.sine_series.specs.Tables.{Q, S, F, G}
use Rattle.sine_series.proofs.TableTest.{entry, Entry, entry_known}

-- from 20 degrees on no entry of S is less than that of 20 degrees
unfoldable pub least_of_s : ℕ → ℕ
least_of_s a = cond (leb 200 a) 367241333 0

s_test : ℕ → Bool
s_test a = entry (least_of_s a) Q (a * 1000) 1

f_test : ℕ → Bool
f_test b = entry 0 1872158 b 1

g_test : ℕ → Bool
g_test b = entry 1073740192 Q b 0

s_all : T (all_from s_test 0 901)
unfolding s_test least_of_s entry
s_all = tt

f_all : T (all_from f_test 0 1000)
unfolding f_test entry
f_all = tt

g_all : T (all_from g_test 0 1000)
unfolding g_test entry
g_all = tt

pub s_entry : (a : ℕ) → a < 901 → Entry (least_of_s a) Q (sine_series (a * 1000)) (S a)
unfolding S sine_series s_test
s_entry a h = entry_known (least_of_s a) Q (a * 1000) 1 (at_each s_test 901 s_all a h)

pub f_entry : (b : ℕ) → b < 1000 → Entry 0 1872158 (sine_series b) (F b)
unfolding F sine_series f_test
f_entry b h = entry_known 0 1872158 b 1 (at_each f_test 1000 f_all b h)

pub g_entry : (b : ℕ) → b < 1000 → Entry 1073740192 Q (cosine_series b) (G b)
unfolding G cosine_series g_test
g_entry b h = entry_known 1073740192 Q b 0 (at_each g_test 1000 g_all b h)

-- ---- document 01's rule: no other whole number is as near to Q times the series

pub s_nearest : (a : ℕ) → a < 901 → Nearest Q (sine_series (a * 1000)) (S a)
s_nearest a h = nearest_rule Q _ _ (s_entry a h).positive (s_entry a h).half

pub f_nearest : (b : ℕ) → b < 1000 → Nearest Q (sine_series b) (F b)
f_nearest b h = nearest_rule Q _ _ (f_entry b h).positive (f_entry b h).half

pub g_nearest : (b : ℕ) → b < 1000 → Nearest Q (cosine_series b) (G b)
g_nearest b h = nearest_rule Q _ _ (g_entry b h).positive (g_entry b h).half
