-- What a run keeps between its records. Assumes nothing.
use Rattle.std.specs.Prelude.{ℕ, ◌+◌, ◌*◌, Bool, true, ◌&&◌, length, nat_le}
use Rattle.rehearsal.specs.declared.progress.Progress.{Progress as Coded}
use Rattle.rehearsal.specs.Progress.{Progress, fresh, gathering, going, over}
use Rattle.rehearsal.specs.Takes.{progress_of, unshut_in}

-- while corners may come the file is known to have at most 16,383 words, of which the terms took five and each corner two
abbrev pub roomy : Progress → ℕ → ℕ → Bool
roomy fresh at words = nat_le words 16383
roomy (gathering t corners) at words = nat_le (2 * length corners + 5) at && nat_le words 16383
roomy (going s) at words = true
roomy over at words = true

-- and no session is shut
unfoldable pub sound : Coded → ℕ → ℕ → Bool
sound p at words = roomy (progress_of p) at words && unshut_in p
