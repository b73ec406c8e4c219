use Rattle.sync_typing_reading.proofs.reading.+read_form.Given as goal

abbrev pub decreases-read_form : goal.decreases-read_form
decreases-read_form l = l.id.0
