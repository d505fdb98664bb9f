pub mod SweepCalls
