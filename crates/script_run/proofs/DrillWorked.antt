-- A worked example of a generated workload's line. It computes: a wrong number here is refused.
use Rattle.std.specs.Prelude.{◌≡◌, refl, codes}
use Rattle.std.specs.Fmt.{digits}
use Rattle.script_run.specs.Drill.{drill_text}

two_elements : drill_text 1 2 ≡ codes "drill elements 2 refused 0 generation 1 packets 2 matched 1 sum 1\n"
unfolding drill_text digits
two_elements = refl
