mod NamesAreText
