-- How a call of the program ends: one row a status, from which all else that is said of a status is read.
use Rattle.std.specs.Prelude.{ℕ, Bool, true, false, List, [], ◌++◌, codes, decimal}
use Rattle.fk_commands.specs.declared.status.Status.{Status}
use Rattle.fk_commands.specs.declared.status.Status.TheVariants.{Ok, Usage, TooLong, BadText, BadScenario, Absent, BadImage, BadTrace, JobRefused, Budget}
use Rattle.fk_commands.specs.declared.status.Status.TheVariants.{ReadFault, WriteFault, ShelfFault, NoMemory, NotPaged, BadRecord}

-- ---- what a row says

-- how far a call came
pub data Progress : Type 0 where
  -- to the words, which are no command
  Words : Progress
  -- into the reading of the source, of which some may be left
  Reading : Progress
  -- past the end of the source, and not to the sink
  Refusing : Progress
  -- into the writing of the output
  Writing : Progress
  -- past the end of the output
  Finished : Progress

-- what failed
pub data Failed : Type 0 where
  -- neither the outside nor the memory
  Nothing : Failed
  Source : Failed
  Sink : Failed
  Shelf : Failed
  Memory : Failed

-- which puts of a run were made
pub data Puts : Type 0 where
  -- none was tried
  NoPut : Puts
  -- those before one that failed
  SomePuts : Puts
  AllPuts : Puts

pub record Row : Type 0 where
  -- the status with which the process exits
  pub number : ℕ
  pub came : Progress
  pub failed : Failed
  -- whether there may be the report of a run
  pub may_report : Bool
  pub puts : Puts
  -- the line on standard error, without its line feed; nothing where all went well
  pub line : List ℕ

abbrev pub row : ℕ → Progress → Failed → Bool → Puts → List ℕ → Row
row number came failed may_report puts line =
    record { number = number; came = came; failed = failed; may_report = may_report; puts = puts; line = line }

-- ---- the table

abbrev pub row_of : Status → Row
row_of Ok = row 0 Finished Nothing true AllPuts []
row_of Usage = row 2 Words Nothing false NoPut (codes "fluke: usage")
row_of TooLong = row 3 Reading Nothing false NoPut (codes "fluke: too long")
row_of (BadText line reason) =
    row 4 Refusing Nothing false NoPut (codes "fluke: bad text line " ++ (decimal line ++ (codes " reason " ++ decimal reason)))
row_of (BadScenario rule section index) =
    row 5 Refusing Nothing false NoPut
    (codes "fluke: bad scenario rule " ++ (decimal rule ++ (codes " section " ++ (decimal section ++ (codes " index " ++ decimal index)))))
row_of (Absent name) = row 6 Refusing Nothing false NoPut (codes "fluke: absent " ++ name)
row_of (BadImage name offset reason) =
    row 7 Refusing Nothing false NoPut
    (codes "fluke: bad image " ++ (name ++ (codes " offset " ++ (decimal offset ++ (codes " reason " ++ decimal reason)))))
row_of (BadTrace index) = row 8 Refusing Nothing false NoPut (codes "fluke: bad trace index " ++ decimal index)
row_of (JobRefused job) = row 9 Finished Nothing true AllPuts (codes "fluke: job " ++ (decimal job ++ codes " refused"))
row_of (Budget budget) = row 10 Finished Nothing true AllPuts (codes "fluke: budget " ++ decimal budget)
row_of ReadFault = row 11 Reading Source false NoPut (codes "fluke: read fault")
row_of WriteFault = row 12 Writing Sink true AllPuts (codes "fluke: write fault")
row_of ShelfFault = row 13 Refusing Shelf true SomePuts (codes "fluke: shelf fault")
row_of NoMemory = row 14 Reading Memory false SomePuts (codes "fluke: no memory")
row_of NotPaged = row 15 Refusing Nothing false NoPut (codes "fluke: not paged")
row_of (BadRecord line) = row 16 Refusing Nothing false NoPut (codes "fluke: bad record line " ++ decimal line)

-- ---- what is read of it

-- the exit status
abbrev pub status_number : Status → ℕ
status_number status = (row_of status).number

-- what goes to standard error
abbrev pub fault_line_of : Status → List ℕ
fault_line_of status = (row_of status).line

abbrev pub progress_of : Status → Progress
progress_of status = (row_of status).came

abbrev pub is_source : Failed → Bool
is_source Source = true
is_source other = false

abbrev pub is_sink : Failed → Bool
is_sink Sink = true
is_sink other = false

abbrev pub is_shelf : Failed → Bool
is_shelf Shelf = true
is_shelf other = false

-- the outside or the memory
abbrev pub is_anything : Failed → Bool
is_anything Nothing = false
is_anything other = true

-- a read, a write, a get or a put failed
abbrev pub is_read_fault : Status → Bool
is_read_fault status = is_source (row_of status).failed

abbrev pub is_write_fault : Status → Bool
is_write_fault status = is_sink (row_of status).failed

-- a get or a put failed
abbrev pub is_shelf_fault : Status → Bool
is_shelf_fault status = is_shelf (row_of status).failed

-- the outside or the memory failed
abbrev pub was_cut_short : Status → Bool
was_cut_short status = is_anything (row_of status).failed

-- what can be read was read
abbrev pub is_past_reading : Progress → Bool
is_past_reading Words = false
is_past_reading Reading = false
is_past_reading other = true

-- nothing was written
abbrev pub is_before_writing : Progress → Bool
is_before_writing Writing = false
is_before_writing Finished = false
is_before_writing other = true

abbrev pub has_written_nothing : Status → Bool
has_written_nothing status = is_before_writing (row_of status).came

-- there may be the report of a run
abbrev pub may_report : Status → Bool
may_report status = (row_of status).may_report

abbrev pub is_none : Puts → Bool
is_none NoPut = true
is_none other = false

abbrev pub is_all : Puts → Bool
is_all AllPuts = true
is_all other = false

-- all puts were made
abbrev pub has_put_all : Status → Bool
has_put_all status = is_all (row_of status).puts

-- none was tried
abbrev pub has_put_none : Status → Bool
has_put_none status = is_none (row_of status).puts
