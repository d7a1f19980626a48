-- The words of a line: what an analysis of one algebra came to.
use Rattle.std.specs.Prelude.{ℕ, List, [], ◌++◌, Some, None, Ok, Err, codes, decimal, Option, Result}
use Rattle.analyser.specs.declared.fault.Fault.{Fault}
use Rattle.analyser.specs.Faults.{number_of}
use Rattle.shelves.specs.declared.report.Report.{Report}

-- the figure, which a program that is analysed has
abbrev pub figure_words : {V : Type 0} → (V → List ℕ) → Option V → List ℕ
figure_words words None = codes "none"
figure_words words (Some v) = words v

-- the first tick, where the algebra names one
abbrev pub tick_words : Option ℕ → List ℕ
tick_words None = []
tick_words (Some t) = codes " tick " ++ decimal t

-- what was reported: the name of the algebra, the words of its figure and of its tick, and the shape
abbrev pub reported_words : (name figure tick : List ℕ) → (transient period : ℕ) → List ℕ
reported_words name figure tick transient period =
    name ++ (codes " " ++ (figure ++ (tick ++ (codes " transient " ++ (decimal transient ++ (codes " period " ++ decimal period))))))

-- what was refused: the name of the algebra, the number of the question, and how many records were accepted before
abbrev pub refused_words : (name : List ℕ) → (number accepted : ℕ) → List ℕ
refused_words name number accepted = name ++ (codes " refused " ++ (decimal number ++ (codes " record " ++ decimal accepted)))

-- the line of an algebra of this name, whose figures have these words
abbrev pub line_words : {V : Type 0} → List ℕ → (V → List ℕ) → Result (Report V) Fault → List ℕ
line_words name words (Ok r) = reported_words name (figure_words words r.figure) (tick_words r.tick) r.transient r.period
line_words name words (Err fault) = refused_words name (number_of fault.why) fault.accepted
