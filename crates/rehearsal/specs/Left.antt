-- The lines that a run has yet to give out. Assumes nothing.
use Rattle.std.specs.Prelude.{◌≡◌, ℕ, ◌+◌, ◌-◌, ◌<◌, ◌≤◌, true, false, cond, List, [], ◌∷◌, ◌++◌, Ok, Err, Option, Result}
use Rattle.std.specs.Option.{option_to_list}
use Rattle.bidfile.specs.Found.{Found, found}
use Rattle.bidfile.specs.Words.{words}
use Rattle.listing.specs.declared.fault.Fault.{Fault}
use Rattle.listing.specs.declared.line.Line.{Line}
use Rattle.listing.specs.Faults.{fault_line}
use Rattle.rehearsal.specs.declared.progress.Progress.{Progress as Coded}
use Rattle.rehearsal.specs.declared.run.Run.{Run}
use Rattle.rehearsal.specs.Events.{events}
use Rattle.rehearsal.specs.Listing.{lines_from}
use Rattle.rehearsal.specs.Progress.{is_over}
use Rattle.rehearsal.specs.Soundness.{sound}
use Rattle.rehearsal.specs.Takes.{progress_of, progress_lines}

-- the lines of what is found, from a progress on
unfoldable pub lines_ahead : Coded → List Found → List Line
lines_ahead p fs = lines_from (events (progress_of p) fs)

-- those of what was read on to, with those still to be read
abbrev pub advanced_as : Result (Coded × Option Line) Fault → List Found → List Line
advanced_as (Ok x) fs = (option_to_list x.1 ++ progress_lines x.0) ++ lines_ahead x.0 fs
advanced_as (Err f) fs = fault_line f ∷ []

-- a run that has not ended, under what it keeps
abbrev pub Running : Coded → ℕ → ℕ → Type 0
Running p at words = (sound p at words ≡ true) × (is_over (progress_of p) ≡ false)

-- the run ends, or the place is further on
abbrev pub Further : ℕ → ℕ → ℕ → Result (Coded × Option Line) Fault → Type 0
Further at end words (Ok x) = (sound x.0 end words ≡ true) × (is_over (progress_of x.0) ≡ false → (at < end) × (end ≤ words))
Further at end words (Err f) = Unit {0}

-- the lines that wait, and then those of what is found from the reader's place on
abbrev pub lines_left : Run → List Line
lines_left r = r.waiting ++ lines_ahead r.progress (found r.reader.file.now r.reader.at)

-- at most so many records are still to be read, the end of the file among them
abbrev pub steps_left : Run → ℕ
steps_left r = cond (is_over (progress_of r.progress)) 0 (words r.reader.file.now - r.reader.at + 1)

-- a run that has not ended, and has no line to give out before it reads on
abbrev pub Silent : Run → Type 0
Silent r = (r.waiting ≡ []) × (is_over (progress_of r.progress) ≡ false)
