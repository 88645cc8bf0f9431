mod GivenRopes
mod NoRopes
mod RopeChanged
mod RopePopped
mod RopeReading
