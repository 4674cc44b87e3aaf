-- The numbers of each table fit its bits.
use Rattle.std.proofs.Common.{◌<◌, ◌≡◌, ◌++◌, List, [], ◌∷◌, ap, true, map, lit<}
use Rattle.zbits.specs.declared.layout.BitField.{BitField}
use Rattle.zbits.specs.Words.{bytes_of_words}
use Rattle.zbits.specs.Layout.{AllFit, AllTablesFit, all_cover, at, layout_of, word_of}
use Rattle.zbits.proofs.LayoutLemmas.{bit_number-lt}
use Rattle.zbits.proofs.OneImage.{one_image}
use Rattle.scsw_irb.specs.declared.scsw.Scsw.{Scsw}
use Rattle.scsw_irb.specs.declared.scsw.FunctionControl.{FunctionControl}
use Rattle.scsw_irb.specs.declared.scsw.ActivityControl.{ActivityControl}
use Rattle.scsw_irb.specs.declared.scsw.StatusControl.{StatusControl}
use Rattle.scsw_irb.specs.declared.scsw.DeferredCode.{DeferredCode}
use Rattle.scsw_irb.specs.declared.scsw.DeferredCode.TheVariants.{Zero, One, Two, Three}
use Rattle.scsw_irb.specs.declared.irb.Irb.{Irb}
use Rattle.scsw_irb.specs.declared.code.IntCode.{IntCode}
use Rattle.scsw_irb.specs.declared.crw.Crw.{Crw}
use Rattle.scsw_irb.specs.declared.crw.PathReport.{PathReport}
use Rattle.scsw_irb.specs.declared.crw.PathReport.TheVariants.{Lost, Back, Initialized, ResetDone}
use Rattle.scsw_irb.specs.ScswTable.{code_number, function_table, activity_table, status_table, control_table, word_0, scsw_tables, irb_tables}
use Rattle.scsw_irb.specs.CodeTable.{code_tables}
use Rattle.scsw_irb.specs.CrwTable.{error_code, crw_table, is_solicited}
use Rattle.scsw_irb.specs.Ranges.{IsScswInRange, IsIrbInRange, IsCodeInRange, IsCrwInRange}

AllFit-append : (xs ys : List BitField) → AllFit xs → AllFit ys → AllFit (xs ++ ys)
AllFit-append [] ys a b = b
AllFit-append (x ∷ xs) ys a b = (a.0, AllFit-append xs ys a.1 b)

code_number-lt : (code : DeferredCode) → code_number code < 4
code_number-lt Zero = lit< tt
code_number-lt One = lit< tt
code_number-lt Two = lit< tt
code_number-lt Three = lit< tt

error_code-lt : (report : PathReport) → error_code report < 64
error_code-lt Lost = lit< tt
error_code-lt Back = lit< tt
error_code-lt Initialized = lit< tt
error_code-lt ResetDone = lit< tt

functions-fit : (f : FunctionControl) → AllFit (function_table f)
functions-fit f = (bit_number-lt f.start, (bit_number-lt f.halt, (bit_number-lt f.clear, tt)))

activity-fit : (a : ActivityControl) → AllFit (activity_table a)
activity-fit a = (
  bit_number-lt a.resume_pending,
  (bit_number-lt a.start_pending, (bit_number-lt a.halt_pending, (bit_number-lt a.clear_pending, (bit_number-lt a.subchannel_active, (bit_number-lt a.device_active, (bit_number-lt a.suspended, tt)))))),
)

status-fit : (s : StatusControl) → AllFit (status_table s)
status-fit s = (bit_number-lt s.alert, (bit_number-lt s.intermediate, (bit_number-lt s.primary, (bit_number-lt s.secondary, (bit_number-lt s.pending, tt)))))

controls-fit : (s : Scsw) → AllFit (control_table s)
controls-fit s = (
  s.key_fits,
  (bit_number-lt s.suspend, (lit< tt, (code_number-lt s.deferred, (bit_number-lt s.format_one, (bit_number-lt s.prefetch, (bit_number-lt s.initial_status, (bit_number-lt s.address_limit, (bit_number-lt s.suppress_suspended, (lit< tt, (bit_number-lt s.path_not_operational, (lit< tt, tt))))))))))),
)

word_0-fit : (s : Scsw) → AllFit (word_0 s)
word_0-fit s =
    AllFit-append (control_table s ++ function_table s.functions ++ activity_table s.activity) (status_table s.status)
    (AllFit-append (control_table s ++ function_table s.functions) (activity_table s.activity)
    (AllFit-append (control_table s) (function_table s.functions) (controls-fit s) (functions-fit s.functions)) (activity-fit s.activity))
    (status-fit s.status)

pub scsw-fit : (s : Scsw) → IsScswInRange s → AllTablesFit (scsw_tables s)
scsw-fit s range = (word_0-fit s, ((range.address, tt), ((range.device, (range.subchannel, (range.count, tt))), tt)))

zeros-fit : AllFit (at 0 31 0 ∷ [])
zeros-fit = (lit< tt, tt)

pub irb-fit : (s : Irb) → IsIrbInRange s → AllTablesFit (irb_tables s)
irb-fit s range =
    let z = zeros-fit in
    let status = scsw-fit s.scsw range.scsw in
    (status.0, (status.1.0, (status.1.1.0, ((lit< tt, (range.path, (lit< tt, tt))), (z, (z, (z, (z, (z, (z, (z, (z, (z, (z, (z, (z, tt))))))))))))))))

pub code-fit : (s : IntCode) → IsCodeInRange s → AllTablesFit (code_tables s)
code-fit s range = ((lit< tt, (s.set_fits, (lit< tt, (range.subchannel, tt)))), ((range.parameter, tt), ((lit< tt, (s.subclass_fits, (lit< tt, tt))), tt)))

pub crw-fit : (s : Crw) → IsCrwInRange s → AllFit (crw_table s)
crw-fit s range = (
  lit< tt,
  (bit_number-lt (is_solicited s.report), (bit_number-lt s.overflow, (lit< tt, (lit< tt, (lit< tt, (error_code-lt s.report, (lit< tt, (range, tt)))))))),
)

-- tables of one layout that make the same words have the same numbers
pub one_words : (s t : List (List BitField)) → layout_of s ≡ layout_of t → all_cover s ≡ true → all_cover t ≡ true
    → AllTablesFit s → AllTablesFit t → map word_of s ≡ map word_of t → s ≡ t
one_words s t p hs ht a b h = one_image s t p hs ht a b (ap bytes_of_words h)
