use Rattle.std.proofs.Common.{◌≡◌, sym, subst}
use Rattle.recalc.specs.Showing.{ShownIn}
use Rattle.shift.specs.Entries.{shifted_entries, Shiftable}
use Rattle.shift.specs.Sheets.{shifted}
use Rattle.shift.specs.Values.{value_len}
use Rattle.shift.proofs.ShownRow.{inserted_shown}
use Rattle.shift.proofs.values.insert_values.Goals as goal

pub returns : goal.returns
returns c =
    let d = c.args.reshape.shift in
    let row = c.args.values.now in
    record {
      numbers = c.shift_entries.ensures;
      shown = λ s h w is.
          let same : c.args.reshape.size ≡ record { rows = s.rows; cols = s.cols } = λ i. record { rows = sym h i; cols = sym w i } in
          subst (ShownIn (shifted d s)) (sym c.shift_entries.ensures)
          (subst (λ z. ShownIn (shifted d s) (shifted_entries value_len d z row)) (sym same) (inserted_shown d s row (subst (Shiftable d) same c.args.reshape.shiftable) c.requires.change is));
    }
