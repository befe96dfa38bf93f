-- The program's tables of forms, as lists.
use Rattle.std.specs.Prelude.{List, map}
use Rattle.rws_class.specs.Forms.{Form, Part, The, Name, AnyWord, CharacterSet, Text}
use Rattle.rws_class.specs.declared.form.Part as declared
use Rattle.rws_class.specs.declared.form.Part.TheVariants as made
use Rattle.rws_class.specs.declared.form.Form as declared_form

abbrev pub part_of : declared.Part → Part
part_of (made.The text) = The text.now
part_of made.Name = Name
part_of made.AnyWord = AnyWord
part_of made.CharacterSet = CharacterSet
part_of made.Text = Text

abbrev pub forms_of : List declared_form.Form → List Form
forms_of forms = map (λ form. record { parts = map part_of form.parts.now; class = form.class }) forms
