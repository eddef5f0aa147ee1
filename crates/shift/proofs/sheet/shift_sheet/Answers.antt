use Rattle.std.proofs.Common.{◌≤◌, max, length, Ok, sym, ap, ◌∙◌, subst}
use Rattle.recalc.specs.Layout.{sheet_len, checked, fitting}
use Rattle.recalc.specs.Showing.{answered, kept}
use Rattle.shift.specs.Entries.{size_after, cells_of}
use Rattle.shift.specs.Memory.{Shifts}
use Rattle.shift.proofs.Allowed.{ready, fits_after, room_left}
use Rattle.shift.proofs.sheet.shift_sheet.Goals as goal

pub shift_memory-requires : goal.shift_memory-requires
shift_memory-requires c =
    let xs = c.args.nums.now in
    let d = c.in_ok-reshape.reshape.shift in
    let r = ready d c.args.shift c.args.most c.in_ok-reshape.reshape.size xs c.in_ok-reshape.ensures.0 c.in_ok-reshape.ensures.1 in
    record { size = r.is; room = subst (λ z. sheet_len (max (cells_of z) (cells_of (size_after d z))) ≤ length xs) (sym r.is) (room_left d c.args.most xs r.fits r.leaves) }

pub returns : goal.returns
returns c =
    let xs = c.args.nums.now in
    let most = c.args.most in
    let d = c.in_ok-reshape.reshape.shift in
    let size = c.in_ok-reshape.reshape.size in
    let r = ready d c.args.shift most size xs c.in_ok-reshape.ensures.0 c.in_ok-reshape.ensures.1 in
    let done = c.shift_memory.ensures in
    let formed = sym (ap checked done.numbers) ∙ done.formed r.ok ∙ ap (λ z. Ok (size_after d z)) r.is in
    subst (λ d. Shifts d most xs (Ok tt) c.shift_memory.new.nums) c.in_ok-reshape.ensures.0
    (record {
      answer = sym (ap answered r.answer);
      memory = done.numbers ∙ sym (ap (kept xs) r.answer);
      sheet = λ e. done.sheet;
      fits = λ e. ap (fitting most) done.numbers ∙ fits_after d most size xs r formed;
    })
