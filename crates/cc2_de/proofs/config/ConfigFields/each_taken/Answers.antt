use Rattle.std.proofs.Common.{refl}
use Rattle.cc2_de.proofs.config.ConfigFields.each_taken.Goals as goal

pub returns : goal.returns
returns g c = (_, c.each_taken-field.ensures, (_, c.each_taken-field-2.ensures, (_, c.each_taken-field-3.ensures, (_, c.each_taken-field-4.ensures, (_, c.each_taken-field-5.ensures, (_, c.each_taken-field-6.ensures, (_, c.each_taken-field-7.ensures, (_, c.each_taken-field-8.ensures, (_, c.each_taken-field-9.ensures, (_, c.each_taken-field-10.ensures, (_, c.each_taken-field-11.ensures, (_, c.each_taken-field-12.ensures, (_, c.each_taken-field-13.ensures, (_, c.each_taken-field-14.ensures, refl))))))))))))))
