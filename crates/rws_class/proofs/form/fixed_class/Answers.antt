use Rattle.rws_class.specs.Forms.{forms}
use Rattle.rws_class.proofs.form.fixed_class.Goals as goal

-- the program's table is the list of forms
pub returns : goal.returns
unfolding forms
returns c = c.form_class.ensures
