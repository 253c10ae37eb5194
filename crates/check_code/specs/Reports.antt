-- What the program reports of a text, and what it prints of a report. Assumes nothing.
use Rattle.std.specs.Prelude.{◌≡◌, ℕ, if◌then◌else◌, List, [], ◌++◌, Ok, Err, codes, decimal, Result, ◌==◌}
use Rattle.bench_text.specs.Reading.{Reading, given, refused}
use Rattle.bench_text.specs.declared.answers.BenchCounts.{BenchCounts}
use Rattle.check_code.specs.declared.report.Report.{Report}
use Rattle.code.specs.Verdict.{record_count, verdict}
use Rattle.records.specs.Refusals.{answer, refusal_text}
use Rattle.records.specs.declared.refusal.Refusal.{Refusal}

-- a number and a noun, in the plural but for 1
abbrev pub count_text : ℕ → List ℕ → List ℕ
count_text n noun = decimal n ++ (codes " " ++ (noun ++ (if n == 1 then [] else codes "s")))

abbrev pub pass_text : ℕ → ℕ → ℕ → List ℕ
pass_text records places results =
    codes "passes: " ++ (count_text records (codes "record") ++ (codes ", " ++ (count_text places (codes "place") ++ (codes ", " ++ count_text results (codes "result")))))

abbrev pub verdict_text : Report → Result (Unit {0}) Refusal → List ℕ
verdict_text r (Ok _) = pass_text r.counts.records r.counts.places r.counts.results
verdict_text r (Err e) = refusal_text e

abbrev pub report_text : Report → List ℕ
report_text r = verdict_text r r.verdict

-- the report on a text that is read as some counts and some code: how much there is, and the checker's verdict
pub record ReportOn (counts : BenchCounts) (code : List ℕ) (r : Report) : Type 0 where
  pub records : r.counts.records ≡ record_count code
  pub places : r.counts.places ≡ counts.places
  pub results : r.counts.results ≡ counts.results
  pub is_the_verdict : answer r.verdict ≡ verdict code counts.places counts.results

-- there is no report on a text that is not of the form
abbrev pub Reports : Reading → Report → Type 0
Reports (given counts code) r = ReportOn counts code r
Reports (refused n want code) r = ⊥
